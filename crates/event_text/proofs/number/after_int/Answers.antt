use Rattle.std.proofs.Common.{[], ◌∷◌, inl, inr, refl, arith, get_or}
use Rattle.json_text.specs.Number.{IsInt}
use Rattle.event_text.proofs.TextLemmas.{cut_1, left_after}
use Rattle.event_text.proofs.NumberLemmas.{above_zero, more_begin, one_begins}
use Rattle.event_text.proofs.number.after_int.Goals as goal

pub returns-in-48-clause-int : goal.returns-in-48-clause-int
returns-in-48-clause-int c =
    let bytes = c.args.bytes.now in
    one_begins IsInt 48 bytes _ (left_after bytes 1 (48 ∷ []) (cut_1 bytes 48 c.in-48.len_at_least (omega arith))) (inl (refl, refl))

pub returns-in-49-to-57-clause-int : goal.returns-in-49-to-57-clause-int
returns-in-49-to-57-clause-int c =
    let bytes = c.args.bytes.now in
    let byte = get_or bytes 0 0 in
    let more = c.after_more_digits.ensures.digits in
    more_begin IsInt byte bytes _ c.after_more_digits.result.now (left_after bytes 1 (byte ∷ []) (cut_1 bytes byte c.in-49-to-57.len_at_least refl)) more
    (inr (above_zero byte (omega arith) (omega arith), more.has))
