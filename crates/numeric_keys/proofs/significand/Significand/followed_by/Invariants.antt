use Rattle.std.proofs.Common.{◌≡◌, ◌+◌, ◌≤◌, take}
use Rattle.std.specs.Str.Parse.{digits_value_after}
use Rattle.numeric_keys.specs.Significand.{number_with, IsTrimmed}
use Rattle.numeric_keys.proofs.significand.Significand.followed_by.Given as goal

-- the number so far, which the first number and the digits so far write
abbrev pub invariant-loop-byte : goal.invariant-loop-byte
invariant-loop-byte l =
    (number_with l.number ≡ digits_value_after 10 (number_with l.fn.self)
    (take l.byte-index l.digits))
    × IsTrimmed l.number × (l.number.zeros ≤ l.fn.self.zeros + l.byte-index)
