use Rattle.std.proofs.Common.{◌≡◌, ◌≤◌, ◌-◌, ◌+◌, length, get_or, sym, ap, ◌∙◌, arith}
use Rattle.std.specs.List.{list_all}
use Rattle.std.specs.Char.{is_ascii_digit, digit_value}
use Rattle.std.specs.Str.Parse.{digits_value}
use Rattle.std.proofs.lemmas.List.{take_all}
use Rattle.std.proofs.lemmas.Bool.Decides.{nat_tests}
use Rattle.std.proofs.lemmas.Int.Digits.{digits_value_more}
use Rattle.std.proofs.lemmas.Str.Parse.{digits_value-take-le}
use Rattle.api_messages.proofs.FieldLemmas.{length_of_size_cases, length_of_other, length_of_large, length_of_digits, list_all_here, list_all_fails}
use Rattle.api_messages.proofs.fields.length_of.Goals as goal

pub returns-then-is_empty : goal.returns-then-is_empty
returns-then-is_empty c = length_of_size_cases _ _ c.is_empty.ensures c.then-is_empty.either

pub returns-then-not-is_ascii_digit : goal.returns-then-not-is_ascii_digit
returns-then-not-is_ascii_digit c =
    let other = sym c.if-not-is_ascii_digit.ensures.value in
    length_of_other _ (list_all_fails is_ascii_digit c.args.value.now c.loop-digit.digit-index 0 c.loop-digit-test.true other)

pub returns-then-number-gt-BODY_LIMIT : goal.returns-then-number-gt-BODY_LIMIT
returns-then-number-gt-BODY_LIMIT c =
    let v = c.args.value.now in
    let i = c.loop-digit.digit-index in
    let digit : digit_value (get_or v i 0) ≡ get_or v i 0 - 48 = grind (arith, nat_tests) in
    length_of_large v c.too_large_if_sound.result (grind (arith, nat_tests)) (omega arith)
    (omega (arith, digits_value_more 10 v i c.loop-digit-test.true, digits_value-take-le 10 v (i + 1) (omega arith)))
    c.too_large_if_sound.ensures

pub loop-digit-preserved : goal.loop-digit-preserved
loop-digit-preserved c =
    let v = c.args.value.now in
    let i = c.loop-digit.digit-index in
    let digit : digit_value (get_or v i 0) ≡ get_or v i 0 - 48 = grind (arith, nat_tests) in
    record {
      digits = list_all_here is_ascii_digit v i 0 c.loop-digit-test.true c.loop-digit.invariant.digits (sym c.if-not-is_ascii_digit.ensures.value);
      value = omega (arith, digits_value_more 10 v i c.loop-digit-test.true);
      small = omega arith;
    }

pub returns : goal.returns
returns c =
    let v = c.args.value.now in
    let all = take_all c.loop-digit.digit-index v c.loop-digit-test.false in
    let some : 1 ≤ length v = grind (arith, nat_tests) in
    length_of_digits v c.loop-digit.number some (omega arith)
    (sym (ap (list_all is_ascii_digit) all) ∙ c.loop-digit.invariant.digits)
    (c.loop-digit.invariant.value ∙ ap (digits_value 10) all)
    (omega arith)
