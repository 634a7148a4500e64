use Rattle.std.proofs.Common.{[], ◌∷◌, ◌≡◌, ◌==◌, ◌||◌, true, refl, arith, get_or}
use Rattle.std.proofs.lemmas.Bool.Decides.{nat_tests}
use Rattle.std.proofs.lemmas.Option.{IfSome_then}
use Rattle.json_text.specs.Number.{IsExponent}
use Rattle.event_text.proofs.TextLemmas.{cut_1, left_after}
use Rattle.event_text.proofs.NumberLemmas.{more_begin}
use Rattle.event_text.proofs.number.after_exponent.Goals as goal

pub returns-in-101-clause-exponent : goal.returns-in-101-clause-exponent
returns-in-101-clause-exponent c =
    let bytes = c.args.bytes.now in
    let byte = get_or bytes 0 0 in
    let letter : ((byte == 101) || (byte == 69)) ≡ true = grind (arith, nat_tests) in
    IfSome_then c.after_signed_digits.result c.after_signed_digits.ensures.digits
    (λ rest more. more_begin IsExponent byte bytes _ rest.now (left_after bytes 1 (byte ∷ []) (cut_1 bytes byte c.in-101.len_at_least refl)) more
    (letter, more.has))
