use Rattle.std.proofs.Common.{[], ◌∷◌, refl, arith, get_or}
use Rattle.json_text.specs.Number.{IsDigits}
use Rattle.event_text.proofs.TextLemmas.{cut_1, left_after}
use Rattle.event_text.proofs.NumberLemmas.{digit_is, more_begin}
use Rattle.event_text.proofs.number.after_digits.Goals as goal

pub returns-in-48-to-57-clause-digits : goal.returns-in-48-to-57-clause-digits
returns-in-48-to-57-clause-digits c =
    let bytes = c.args.bytes.now in
    let byte = get_or bytes 0 0 in
    let more = c.after_more_digits.ensures.digits in
    more_begin IsDigits byte bytes _ c.after_more_digits.result.now (left_after bytes 1 (byte ∷ []) (cut_1 bytes byte c.in-48-to-57.len_at_least refl)) more
    (digit_is byte (omega arith) (omega arith), more.has)
