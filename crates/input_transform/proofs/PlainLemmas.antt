-- Bytes that are copied when a template is rewritten: white space, words and numbers. A colon after white space: `colon_space`.
use Rattle.std.proofs.Common.{◌≡◌, ◌≢◌, ℕ, Bool, true, false, ◌==◌, ◌||◌, List, [], ◌∷◌, ◌++◌, refl, sym, ◌∙◌, subst, inl, inr, arith}
use Rattle.std.specs.Char.{is_ascii_digit}
use Rattle.std.proofs.lemmas.Bool.{false≢true, cond-true}
use Rattle.json_text.specs.Number.{IsNumber, AreDigits, IsDigits, is_digit_above_zero, IsInt, IsFraction, IsSignedDigits, IsExponent, IsMinus}
use Rattle.json_text.specs.Grammar.{is_space, IsSpace}
use Rattle.input_transform.specs.Letters.{colon_next}

abbrev pub IsPlainByte : ℕ → Type 0
IsPlainByte b = (b ≢ 34) × (b ≢ 60)

abbrev pub ArePlain : List ℕ → Type 0
ArePlain [] = Unit {0}
ArePlain (b ∷ bs) = IsPlainByte b × ArePlain bs

-- a byte that passes a test which neither `"` nor `<` passes
by_test : (f : ℕ → Bool) (b : ℕ) → f 34 ≡ false → f 60 ≡ false → f b ≡ true → IsPlainByte b
by_test f b q m h = ((λ e. false≢true (sym q ∙ subst (λ x. f x ≡ true) e h)), (λ e. false≢true (sym m ∙ subst (λ x. f x ≡ true) e h)))

pub space_plain : (bs : List ℕ) → IsSpace bs → ArePlain bs
space_plain [] h = tt
space_plain (b ∷ bs) h = (by_test is_space b refl refl h.0, space_plain bs h.1)

pub plain_append : (xs ys : List ℕ) → ArePlain xs → ArePlain ys → ArePlain (xs ++ ys)
plain_append [] ys h k = k
plain_append (x ∷ xs) ys h k = (h.0, plain_append xs ys h.1 k)

digits_plain : (bs : List ℕ) → AreDigits bs → ArePlain bs
digits_plain [] h = tt
digits_plain (b ∷ bs) h = (by_test is_ascii_digit b refl refl h.0, digits_plain bs h.1)

some_digits_plain : (bs : List ℕ) → IsDigits bs → ArePlain bs
some_digits_plain [] h = tt
some_digits_plain (b ∷ bs) h = (by_test is_ascii_digit b refl refl h.0, digits_plain bs h.1)

minus_plain : (bs : List ℕ) → IsMinus bs → ArePlain bs
minus_plain [] h = tt
minus_plain (b ∷ bs) h = subst (λ xs. ArePlain (b ∷ xs)) (sym h.1) (subst (λ x. ArePlain (x ∷ [])) (sym h.0) (((λ e. omega arith), (λ e. omega arith)), tt))

int_plain : (bs : List ℕ) → IsInt bs → ArePlain bs
int_plain [] h = tt
int_plain (b ∷ bs) (inl h) = subst (λ xs. ArePlain (b ∷ xs)) (sym h.1) (subst (λ x. ArePlain (x ∷ [])) (sym h.0) (((λ e. omega arith), (λ e. omega arith)), tt))
int_plain (b ∷ bs) (inr h) = (by_test is_digit_above_zero b refl refl h.0, digits_plain bs h.1)

fraction_plain : (bs : List ℕ) → IsFraction bs → ArePlain bs
fraction_plain [] h = tt
fraction_plain (b ∷ bs) h = (subst IsPlainByte (sym h.0) ((λ e. omega arith), (λ e. omega arith)), some_digits_plain bs h.1)

signed_plain : (bs : List ℕ) → IsSignedDigits bs → ArePlain bs
signed_plain [] h = tt
signed_plain (b ∷ bs) (inl h) = (by_test (λ x. (x == 45) || (x == 43)) b refl refl h.0, some_digits_plain bs h.1)
signed_plain (b ∷ bs) (inr h) = (by_test is_ascii_digit b refl refl h.0, digits_plain bs h.1)

exponent_plain : (bs : List ℕ) → IsExponent bs → ArePlain bs
exponent_plain [] h = tt
exponent_plain (b ∷ bs) h = (by_test (λ x. (x == 101) || (x == 69)) b refl refl h.0, signed_plain bs h.1)

pub number_plain : (bs : List ℕ) → IsNumber bs → ArePlain bs
number_plain bs n = subst ArePlain (sym n.spelled)
    (plain_append n.minus (n.int ++ (n.fraction ++ n.exponent)) (minus_plain n.minus n.is_minus)
    (plain_append n.int (n.fraction ++ n.exponent) (int_plain n.int n.is_int)
    (plain_append n.fraction n.exponent (fraction_plain n.fraction n.is_fraction) (exponent_plain n.exponent n.is_exponent))))

pub colon_space : (bs rest : List ℕ) → IsSpace bs → colon_next (bs ++ rest) ≡ colon_next rest
colon_space [] rest h = refl
colon_space (b ∷ bs) rest h = cond-true (is_space b) (colon_next (bs ++ rest)) (b == 58) h.0 ∙ colon_space bs rest h.1
