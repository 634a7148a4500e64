use Rattle.std.proofs.Common.{[], ◌∷◌, refl, arith}
use Rattle.json_text.specs.Number.{IsMinus}
use Rattle.event_text.proofs.TextLemmas.{cut_1, left_after}
use Rattle.event_text.proofs.NumberLemmas.{one_begins}
use Rattle.event_text.proofs.number.after_minus.Goals as goal

pub returns-in-45-clause-minus : goal.returns-in-45-clause-minus
returns-in-45-clause-minus c =
    let bytes = c.args.bytes.now in
    one_begins IsMinus 45 bytes _ (left_after bytes 1 (45 ∷ []) (cut_1 bytes 45 c.in-45.len_at_least (omega arith))) (refl, refl)
