use Rattle.std.proofs.Common.{◌≡◌, ◌^◌, ◌-◌, take, min}
use Rattle.std.specs.Str.Parse.{digits_value}
use Rattle.numeric_keys.proofs.significand.capped_number.Given as goal

-- the number that the digits so far write, or the cap
abbrev pub invariant-loop-byte : goal.invariant-loop-byte
invariant-loop-byte l = l.number ≡ min (digits_value 10 (take l.byte-index l.digits)) (2 ^ 64 - 1)
