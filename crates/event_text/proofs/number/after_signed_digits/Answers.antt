use Rattle.std.proofs.Common.{[], ◌∷◌, ◌≡◌, ◌==◌, ◌||◌, true, inl, refl, arith, get_or}
use Rattle.std.proofs.lemmas.Bool.Decides.{nat_tests}
use Rattle.std.proofs.lemmas.Option.{IfSome_then}
use Rattle.json_text.specs.Number.{IsSignedDigits}
use Rattle.event_text.proofs.TextLemmas.{cut_1, left_after}
use Rattle.event_text.proofs.NumberLemmas.{more_begin}
use Rattle.event_text.proofs.number.after_signed_digits.Goals as goal

pub returns-in-45-clause-digits : goal.returns-in-45-clause-digits
returns-in-45-clause-digits c =
    let bytes = c.args.bytes.now in
    let byte = get_or bytes 0 0 in
    let sign : ((byte == 45) || (byte == 43)) ≡ true = grind (arith, nat_tests) in
    IfSome_then c.after_digits.result c.after_digits.ensures.digits
    (λ rest more. more_begin IsSignedDigits byte bytes _ rest.now (left_after bytes 1 (byte ∷ []) (cut_1 bytes byte c.in-45.len_at_least refl)) more
    (inl (sign, more.has)))
