use Rattle.std.proofs.Common.{[], ◌∷◌, refl, arith, get_or}
use Rattle.event_text.proofs.TextLemmas.{cut_1, left_after, left_shorter}
use Rattle.event_text.proofs.NumberLemmas.{digit_begins, digit_is}
use Rattle.event_text.proofs.number.after_more_digits.Goals as goal

pub loop-left-preserved : goal.loop-left-preserved
loop-left-preserved c =
    let left = c.loop-left.left.now in
    let byte = get_or left 0 0 in
    record {
      digits = digit_begins c.args.bytes.now left _ byte c.loop-left.invariant.digits
          (left_after left 1 (byte ∷ []) (cut_1 left byte c.in-48-to-57.len_at_least refl)) (digit_is byte (omega arith) (omega arith));
      within = omega (arith, left_shorter left 1, c.loop-left.invariant.within);
    }
