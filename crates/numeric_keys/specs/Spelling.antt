-- The parts that a `Spelling` holds. No public clause names these.
use Rattle.std.specs.Prelude.{ℕ, Bool, List}
use Rattle.numeric_keys.specs.Number.{Parts}
use Rattle.numeric_keys.specs.declared.spelling.Spelling.{Spelling}
use Rattle.numeric_keys.specs.declared.spelling.Exponent.{Exponent}

abbrev pub exponent_parts : Exponent → Bool × List ℕ
exponent_parts e = (e.negative, e.digits.now)

abbrev pub parts_of : Spelling → Parts
parts_of s = record {
  negative = s.negative;
  whole = s.whole.now;
  fraction = s.fraction.now;
  exponent_negative = s.exponent.negative;
  exponent = s.exponent.digits.now;
}
