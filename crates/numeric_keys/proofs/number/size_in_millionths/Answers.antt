use Rattle.std.proofs.Common.{◌≡◌, ◌++◌, ◌≤◌, ◌+◌, ◌^◌, ◌<◌, length, arith, ap, ◌∙◌}
use Rattle.std.specs.Str.Parse.{digits_value, digits_value_after}
use Rattle.numeric_keys.specs.Significand.{number_with}
use Rattle.numeric_keys.proofs.SizeLemmas.{some_below, some_above, solved_below, solved_above, digits_joined, no_size_too_long, long_before_more}
use Rattle.numeric_keys.proofs.number.size_in_millionths.Goals as goal
use Rattle.numeric_keys.proofs.number.size_in_millionths.Goals.{In_ok-number}

pub returns-in_err-followed_by-clause-every : goal.returns-in_err-followed_by-clause-every
returns-in_err-followed_by-clause-every c size within has =
    let spelling = c.args.spelling.now in
    rw c.from_residual.ensures
    (no_size_too_long (digits_value 10 (spelling.whole.now ++ spelling.fraction.now))
    (length spelling.fraction.now) size
    (digits_value 10 spelling.exponent.digits.now) spelling.exponent.negative
    (rw (← digits_joined spelling.whole.now spelling.fraction.now)
    (long_before_more _ spelling.fraction.now c.requires.fraction c.in_err-followed_by.ensures.none)) within has)

pub returns-in_err-number-clause-every : goal.returns-in_err-number-clause-every
returns-in_err-number-clause-every c size within has =
    let spelling = c.args.spelling.now in
    let first : number_with c.in_ok-followed_by.field-0 ≡ digits_value 10 spelling.whole.now =
    c.in_ok-followed_by.ensures.some in
    rw c.from_residual-in_err-number.ensures
    (no_size_too_long (digits_value 10 (spelling.whole.now ++ spelling.fraction.now))
    (length spelling.fraction.now) size
    (digits_value 10 spelling.exponent.digits.now) spelling.exponent.negative
    (rw (
      ← digits_joined spelling.whole.now spelling.fraction.now,
      ← first,
    ) c.in_err-number.ensures.none) within has)

-- the number of the significand is the one that all digits write
number_is : (c : In_ok-number) →
    number_with c.in_ok-number.number ≡ digits_value 10
    (c.args.spelling.now.whole.now ++ c.args.spelling.now.fraction.now)
number_is c =
    let first : number_with c.in_ok-followed_by.field-0
    ≡ digits_value 10 c.args.spelling.now.whole.now = c.in_ok-followed_by.ensures.some in
    c.in_ok-number.ensures.some
    ∙ ap (λ n. digits_value_after 10 n c.args.spelling.now.fraction.now) first
    ∙ digits_joined c.args.spelling.now.whole.now c.args.spelling.now.fraction.now

zeros_few : (c : In_ok-number) →
    c.in_ok-number.number.zeros ≤ 2 ^ 63 + length c.args.spelling.now.fraction.now
zeros_few c = omega (arith, c.in_ok-number.ensures.zeros, c.in_ok-followed_by.ensures.zeros)

places_few : (c : In_ok-number) → length c.args.spelling.now.fraction.now < 2 ^ 63
places_few c = omega arith

pub returns-then-spelling-clause-some : goal.returns-then-spelling-clause-some
returns-then-spelling-clause-some c =
    let before = (goal.at.returns-then-spelling-clause-some c).In_ok-number in
    some_below _ _ _ _ _ _ _
    (number_is before) c.capped_number-power.ensures c.in_ok-number.ensures.trimmed.within
    (zeros_few before) (places_few before)
    c.moved.result c.if-spelling.true c.moved.ensures.within c.moved.ensures.some

pub returns-then-spelling-clause-every : goal.returns-then-spelling-clause-every
returns-then-spelling-clause-every c size within has =
    let before = (goal.at.returns-then-spelling-clause-every c).In_ok-number in
    c.moved.ensures.every size within
    (solved_below _ _ _ _ _ _ _
    (number_is before) c.capped_number-power.ensures c.in_ok-number.ensures.trimmed.within
    (zeros_few before) (places_few before)
    size c.if-spelling.true has)

pub returns-else-spelling-clause-some : goal.returns-else-spelling-clause-some
returns-else-spelling-clause-some c =
    let before = (goal.at.returns-else-spelling-clause-some c).In_ok-number in
    some_above _ _ _ _ _ _ _
    (number_is before) c.capped_number-power.ensures c.in_ok-number.ensures.trimmed.within
    (zeros_few before) (places_few before)
    c.moved-else-spelling.result c.if-spelling.false c.moved-else-spelling.ensures.within c.moved-else-spelling.ensures.some

pub returns-else-spelling-clause-every : goal.returns-else-spelling-clause-every
returns-else-spelling-clause-every c size within has =
    let before = (goal.at.returns-else-spelling-clause-every c).In_ok-number in
    c.moved-else-spelling.ensures.every size within
    (solved_above _ _ _ _ _ _ _
    (number_is before) c.capped_number-power.ensures c.in_ok-number.ensures.trimmed.within
    (zeros_few before) (places_few before)
    size c.if-spelling.false within has)
