-- Numbers (RFC 8259, section 6): number = [ minus ] int [ frac ] [ exp ].
use Rattle.std.specs.Prelude.{◌≡◌, ℕ, List, [], ◌∷◌, ◌++◌, ◌⊎◌}
use Rattle.std.specs.Char.{is_ascii_digit}
use Rattle.std.specs.Prelude.{Bool, true, not, ◌==◌, ◌||◌, ◌&&◌}

-- *DIGIT
abbrev pub AreDigits : List ℕ → Type 0
AreDigits [] = Unit {0}
AreDigits (b ∷ bs) = (is_ascii_digit b ≡ true) × AreDigits bs

-- 1*DIGIT
abbrev pub IsDigits : List ℕ → Type 0
IsDigits [] = ⊥
IsDigits (b ∷ bs) = (is_ascii_digit b ≡ true) × AreDigits bs

-- digit1-9
abbrev pub is_digit_above_zero : ℕ → Bool
is_digit_above_zero b = is_ascii_digit b && not (b == 48)

-- int = zero / ( digit1-9 *DIGIT )
abbrev pub IsInt : List ℕ → Type 0
IsInt [] = ⊥
IsInt (b ∷ bs) = ((b ≡ 48) × (bs ≡ [])) ⊎ ((is_digit_above_zero b ≡ true) × AreDigits bs)

-- frac = decimal-point 1*DIGIT, optional
abbrev pub IsFraction : List ℕ → Type 0
IsFraction [] = Unit {0}
IsFraction (b ∷ bs) = (b ≡ 46) × IsDigits bs

-- [ minus / plus ] 1*DIGIT
abbrev pub IsSignedDigits : List ℕ → Type 0
IsSignedDigits [] = ⊥
IsSignedDigits (b ∷ bs) = (((b == 45) || (b == 43) ≡ true) × IsDigits bs) ⊎ ((is_ascii_digit b ≡ true) × AreDigits bs)

-- exp = e [ minus / plus ] 1*DIGIT, optional
abbrev pub IsExponent : List ℕ → Type 0
IsExponent [] = Unit {0}
IsExponent (b ∷ bs) = ((b == 101) || (b == 69) ≡ true) × IsSignedDigits bs

-- [ minus ]
abbrev pub IsMinus : List ℕ → Type 0
IsMinus [] = Unit {0}
IsMinus (b ∷ bs) = (b ≡ 45) × (bs ≡ [])

-- The bytes spell a number (RFC 8259, section 6): an optional minus; one 0, or digits that begin with 1 to 9; an optional fraction; an
-- optional exponent. `01`, `-`, `1.`, `1e+`, `.5` and `+1` are no numbers; `-0.50e+07` is a number.
-- Shown by: text_tests test_json_text.rt: outside_cases_go_as_marked.
pub record IsNumber (bytes : List ℕ) : Type 0 where
  pub minus : List ℕ
  pub int : List ℕ
  pub fraction : List ℕ
  pub exponent : List ℕ
  pub spelled : bytes ≡ minus ++ (int ++ (fraction ++ exponent))
  pub is_minus : IsMinus minus
  pub is_int : IsInt int
  pub is_fraction : IsFraction fraction
  pub is_exponent : IsExponent exponent
