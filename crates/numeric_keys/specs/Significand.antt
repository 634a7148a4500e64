-- The digits of a number apart from its trailing zeros. No public clause names these.
use Rattle.std.specs.Prelude.{◌≡◌, ℕ, ◌*◌, ◌^◌, ◌%◌, ◌<◌, ◌≤◌}
use Rattle.numeric_keys.specs.Number.{largest_size}
use Rattle.numeric_keys.specs.declared.significand.Significand.{Significand}

-- the number of a significand with its zeros
abbrev pub number_with : Significand → ℕ
number_with s = s.digits * 10 ^ s.zeros

-- its digits do not end in a zero, unless they are 0 as a whole, and are at most the greatest size
pub record IsTrimmed (s : Significand) : Type 0 where
  pub last : 0 < s.digits → 0 < s.digits % 10
  pub within : s.digits ≤ largest_size

-- without its trailing zeros the number is above the greatest size
pub record IsTooLong (n : ℕ) : Type 0 where
  pub digits : ℕ
  pub zeros : ℕ
  pub whole : n ≡ digits * 10 ^ zeros
  pub last : 0 < digits % 10
  pub large : largest_size < digits
