-- Numbers as RFC 8259, section 6, spells them, and the millionths that a spelling means. The size is defined by an equation and no power is
-- computed, so the definition holds for exponents of any length.
use Rattle.std.specs.Prelude.{◌≡◌, ℕ, ◌+◌, ◌*◌, ◌^◌, ◌≤◌, ℤ, pos, neg_ℤ, Bool, true, false, List, [], ◌∷◌, ◌++◌, length, if◌then◌else◌}
use Rattle.std.specs.Bool.{MatchBool}
use Rattle.std.specs.Str.Parse.{AllDigits, IsNumeral, digits_value}

-- The parts of a spelling (RFC 8259, section 6): whether it begins with a minus, the digits of `int`, `frac` and `exp`, and whether `exp`
-- has a minus. A part that is left out has no digits.
-- Shown by: text_tests test_numeric_keys.rt: number_spellings.
pub record Parts : Type 0 where
  pub negative : Bool
  pub whole : List ℕ
  pub fraction : List ℕ
  pub exponent_negative : Bool
  pub exponent : List ℕ

-- [ minus ] (RFC 8259, section 6): whether it is there, and its text
pub data IsSign : Bool → List ℕ → Type 0 where
  no_minus : IsSign false []
  minus : IsSign true (45 ∷ [])

-- int = zero / ( digit1-9 *DIGIT ) (RFC 8259, section 6)
pub data IsInt : List ℕ → Type 0 where
  lone_zero : IsInt (48 ∷ [])
  nonzero : {first : ℕ} {others : List ℕ} → 49 ≤ first → first ≤ 57 → AllDigits 10 others →
      IsInt (first ∷ others)

-- [ frac ], where frac = decimal-point 1*DIGIT (RFC 8259, section 6): its digits, and its text;
-- `IsNumeral 10` is 1*DIGIT
pub data IsFrac : List ℕ → List ℕ → Type 0 where
  no_frac : IsFrac [] []
  point : {digits : List ℕ} → IsNumeral 10 digits → IsFrac digits (46 ∷ digits)

-- e = %x65 / %x45 (RFC 8259, section 6)
pub data IsE : ℕ → Type 0 where
  lower : IsE 101
  upper : IsE 69

-- [ exp ], where exp = e [ minus / plus ] 1*DIGIT (RFC 8259, section 6): whether it has a minus,
-- its digits, its text
pub data IsExp : Bool → List ℕ → List ℕ → Type 0 where
  no_exp : IsExp false [] []
  plain : {e : ℕ} {digits : List ℕ} → IsE e → IsNumeral 10 digits → IsExp false digits (e ∷ digits)
  with_plus : {e : ℕ} {digits : List ℕ} → IsE e → IsNumeral 10 digits →
      IsExp false digits (e ∷ 43 ∷ digits)
  with_minus : {e : ℕ} {digits : List ℕ} → IsE e → IsNumeral 10 digits →
      IsExp true digits (e ∷ 45 ∷ digits)

-- The text spells a number with these parts: [ minus ] int [ frac ] [ exp ] (RFC 8259, section 6). `007`, `+1`, `.5`, `5.`, `1e` and the
-- empty text are no numbers; `0.001`, `1e007`, `1E+2` and `-0` are numbers.
-- Shown by: text_tests test_numeric_keys.rt: number_spellings.
pub record IsNumber (parts : Parts) (text : List ℕ) : Type 0 where
  pub sign : List ℕ
  pub frac : List ℕ
  pub exp : List ℕ
  pub pieces : text ≡ sign ++ (parts.whole ++ (frac ++ exp))
  pub minus : IsSign parts.negative sign
  pub int : IsInt parts.whole
  pub fraction : IsFrac parts.fraction frac
  pub exponent : IsExp parts.exponent_negative parts.exponent exp

-- The value without its sign, times 1,000,000, is this whole number. With D the number that all digits of `int` and `frac` write, f the
-- number of digits of `frac`, and E the number that the digits of `exp` write: D * 10 ^ E * 10 ^ 6 = size * 10 ^ f, and with a minus in
-- `exp` D * 10 ^ 6 = size * 10 ^ (f + E). `0.0000001` has no size.
-- Shown by: text_tests test_numeric_keys.rt: long_spellings.
abbrev pub HasSize : Parts → ℕ → Type 0
HasSize parts size =
    let digits = digits_value 10 (parts.whole ++ parts.fraction) in
    let places = length parts.fraction in
    let power = digits_value 10 parts.exponent in
    MatchBool parts.exponent_negative
    (digits * 10 ^ 6 ≡ size * 10 ^ (places + power))
    (digits * 10 ^ power * 10 ^ 6 ≡ size * 10 ^ places)

-- 5,000,000,000,000,000: the millionths of 5,000,000,000 (this project's own bound).
-- Shown by: text_tests test_numeric_keys.rt: number_spellings.
abbrev pub largest_size : ℕ
largest_size = 5000000000000000

-- The text spells a number of at most the largest size, and this is the size with its sign. `-5000000000` gives -5 * 10 ^ 15;
-- `5000000000.000001` is too large; `-0` and `0e99` give 0.
-- Shown by: text_tests test_numeric_keys.rt: number_spellings.
pub record IsMillionths (text : List ℕ) (m : ℤ) : Type 0 where
  pub parts : Parts
  pub size : ℕ
  pub spelled : IsNumber parts text
  pub value : HasSize parts size
  pub signed : m ≡ (if parts.negative then neg_ℤ (pos size) else pos size)
  pub within : size ≤ largest_size
