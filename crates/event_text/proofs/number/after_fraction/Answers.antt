use Rattle.std.proofs.Common.{[], ◌∷◌, refl, arith}
use Rattle.std.proofs.lemmas.Option.{IfSome_then}
use Rattle.json_text.specs.Number.{IsFraction}
use Rattle.event_text.proofs.TextLemmas.{cut_1, left_after}
use Rattle.event_text.proofs.NumberLemmas.{more_begin}
use Rattle.event_text.proofs.number.after_fraction.Goals as goal

pub returns-in-46-clause-fraction : goal.returns-in-46-clause-fraction
returns-in-46-clause-fraction c =
    let bytes = c.args.bytes.now in
    IfSome_then c.after_digits.result c.after_digits.ensures.digits
    (λ rest more. more_begin IsFraction 46 bytes _ rest.now (left_after bytes 1 (46 ∷ []) (cut_1 bytes 46 c.in-46.len_at_least (omega arith))) more (refl, more.has))
