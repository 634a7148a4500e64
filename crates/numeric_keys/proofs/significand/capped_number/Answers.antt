use Rattle.std.proofs.Common.{◌≡◌, ◌+◌, ◌*◌, ◌-◌, ℕ, take, get_or, arith, refl}
use Rattle.std.specs.Str.Parse.{digits_value}
use Rattle.numeric_keys.proofs.PowerLemmas.{digit_at, number_goes_on}
use Rattle.numeric_keys.proofs.significand.capped_number.Goals as goal

pub overflow_sub-byte : goal.overflow_sub-byte
overflow_sub-byte c = (digit_at c.args.digits.now c.loop-byte.byte-index c.requires (omega arith)).0

pub loop-byte-preserved : goal.loop-byte-preserved
loop-byte-preserved c =
    let whole : ℕ = digits_value 10 (take c.loop-byte.byte-index c.args.digits.now) in
    let more : whole * 10 + (get_or c.args.digits.now c.loop-byte.byte-index 0 - 48)
    ≡ digits_value 10 (take (c.loop-byte.byte-index + 1) c.args.digits.now) =
    number_goes_on 0 c.args.digits.now c.loop-byte.byte-index whole c.requires
    (omega arith) refl _ refl in
    omega arith
