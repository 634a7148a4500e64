use Rattle.std.proofs.Common.{arith}
use Rattle.numeric_keys.specs.Significand.{number_with}
use Rattle.numeric_keys.proofs.PowerLemmas.{digit_at, number_goes_on, too_long_goes_on}
use Rattle.numeric_keys.proofs.significand.Significand.followed_by.Goals as goal

pub overflow_sub-byte : goal.overflow_sub-byte
overflow_sub-byte c =
    (digit_at c.args.digits.now c.loop-byte.byte-index c.requires.digits (omega arith)).0

pub followed_by_digit-requires-clause-digit : goal.followed_by_digit-requires-clause-digit
followed_by_digit-requires-clause-digit c =
    omega (
      arith,
      (digit_at c.args.digits.now c.loop-byte.byte-index c.requires.digits
          (omega arith)).1,
    )

pub returns-in_err-number-clause-none : goal.returns-in_err-number-clause-none
returns-in_err-number-clause-none c =
    rw c.from_residual.ensures
    (too_long_goes_on (number_with c.args.self) c.args.digits.now c.loop-byte.byte-index
    (number_with c.loop-byte.number) c.requires.digits (omega arith)
    c.loop-byte.invariant.0 c.in_err-number.ensures.none)

pub loop-byte-preserved : goal.loop-byte-preserved
loop-byte-preserved c = (
  number_goes_on (number_with c.args.self) c.args.digits.now c.loop-byte.byte-index
      (number_with c.loop-byte.number) c.requires.digits (omega arith)
      c.loop-byte.invariant.0 _ c.in_ok-number.ensures.some,
  c.in_ok-number.ensures.trimmed,
  omega (arith, c.in_ok-number.ensures.zeros),
)
