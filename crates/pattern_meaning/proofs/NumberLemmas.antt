-- The two grammars of numbers, part by part: `to_keys`, `to_json`.
use Rattle.std.proofs.Common.{◌≡◌, ℕ, suc, ◌<◌, ◌≤◌, Bool, true, false, ◌||◌, ◌==◌, not, ◌&&◌, List, [], ◌∷◌, ◌++◌, length, inl, inr, refl, sym, ap, ◌∙◌, subst, arith}
use Rattle.std.specs.Char.{is_ascii_digit, digit_value}
use Rattle.std.specs.Str.Parse.{AllDigits, IsNumeral}
use Rattle.std.proofs.lemmas.Bool.Decides.{nat_tests}
use Rattle.std.proofs.lemmas.Str.Parse.{digit_from_value}
use Rattle.pattern_meaning.proofs.ViewLemmas.{or_parts}
use Rattle.json_text.specs.Number as json
use Rattle.numeric_keys.specs.Number as keys
use Rattle.numeric_keys.specs.Number.{Parts, IsSign, no_minus, minus, lone_zero, nonzero, no_frac, point, IsE, lower, upper, no_exp, plain, with_plus, with_minus}

digit_below : (c : ℕ) → is_ascii_digit c ≡ true → digit_value c < 10
digit_below c h = grind (arith, nat_tests)

digit_in : (c : ℕ) → digit_value c < 10 → is_ascii_digit c ≡ true
digit_in c h = let r = digit_from_value c h in grind (arith, nat_tests)

digits_below : (ds : List ℕ) → json.AreDigits ds → AllDigits 10 ds
digits_below [] h = tt
digits_below (c ∷ ds) h = (digit_below c h.0, digits_below ds h.1)

digits_in : (ds : List ℕ) → AllDigits 10 ds → json.AreDigits ds
digits_in [] h = tt
digits_in (c ∷ ds) h = (digit_in c h.0, digits_in ds h.1)

numeral_of : (ds : List ℕ) → json.IsDigits ds → IsNumeral 10 ds
numeral_of [] h = absurd h
numeral_of (c ∷ ds) h = (omega arith, (digit_below c h.0, digits_below ds h.1))

digits_of : (ds : List ℕ) → IsNumeral 10 ds → json.IsDigits ds
digits_of [] h = absurd (omega (arith, h.0))
digits_of (c ∷ ds) h = (digit_in c h.1.0, digits_in ds h.1.1)

sign_to : (m : List ℕ) → json.IsMinus m → (b : Bool) × IsSign b m
sign_to [] h = (false, no_minus)
sign_to (c ∷ cs) h = (true, subst (IsSign true) (sym (ap (λ x. x ∷ cs) h.0 ∙ ap (λ l. 45 ∷ l) h.1)) minus)

sign_back : (b : Bool) (m : List ℕ) → IsSign b m → json.IsMinus m
sign_back _ _ no_minus = tt
sign_back _ _ minus = (refl, refl)

above_zero : (c : ℕ) → json.is_digit_above_zero c ≡ true → (49 ≤ c) × (c ≤ 57)
above_zero c h = (grind (arith, nat_tests), grind (arith, nat_tests))

is_above : (c : ℕ) → 49 ≤ c → c ≤ 57 → json.is_digit_above_zero c ≡ true
is_above c low high = grind (arith, nat_tests)

int_to : (int : List ℕ) → json.IsInt int → keys.IsInt int
int_to [] h = absurd h
int_to (c ∷ cs) h = elim h [
  | inl zero_alone ↦ subst keys.IsInt (sym (ap (λ x. x ∷ cs) zero_alone.0 ∙ ap (λ l. 48 ∷ l) zero_alone.1)) lone_zero
  | inr r ↦ let range = above_zero c r.0 in nonzero range.0 range.1 (digits_below cs r.1)
]

int_back : (int : List ℕ) → keys.IsInt int → json.IsInt int
int_back _ lone_zero = inl (refl, refl)
int_back (c ∷ cs) (nonzero low high ds) = inr (is_above c low high, digits_in cs ds)

frac_to : (f : List ℕ) → json.IsFraction f → (ds : List ℕ) × keys.IsFrac ds f
frac_to [] h = ([], no_frac)
frac_to (c ∷ ds) h = (ds, subst (λ x. keys.IsFrac ds (x ∷ ds)) (sym h.0) (point (numeral_of ds h.1)))

frac_back : (ds f : List ℕ) → keys.IsFrac ds f → json.IsFraction f
frac_back _ _ no_frac = tt
frac_back ds _ (point h) = (refl, digits_of ds h)

is_eq : (a b : ℕ) → (a == b) ≡ true → a ≡ b
is_eq a b h = grind (arith, nat_tests)

e_to : (c : ℕ) → ((c == 101) || (c == 69)) ≡ true → IsE c
e_to c h = elim (or_parts (c == 101) (c == 69) h) [
  | inl low ↦ subst IsE (sym (is_eq c 101 low)) lower
  | inr high ↦ subst IsE (sym (is_eq c 69 high)) upper
]

e_back : (c : ℕ) → IsE c → ((c == 101) || (c == 69)) ≡ true
e_back _ lower = refl
e_back _ upper = refl

signed_to : (c s : ℕ) (ds : List ℕ) → IsE c → ((s == 45) || (s == 43)) ≡ true → json.IsDigits ds → (b : Bool) × keys.IsExp b ds (c ∷ s ∷ ds)
signed_to c s ds e h digits = elim (or_parts (s == 45) (s == 43) h) [
  | inl less ↦ (true, subst (λ x. keys.IsExp true ds (c ∷ x ∷ ds)) (sym (is_eq s 45 less)) (with_minus e (numeral_of ds digits)))
  | inr more ↦ (false, subst (λ x. keys.IsExp false ds (c ∷ x ∷ ds)) (sym (is_eq s 43 more)) (with_plus e (numeral_of ds digits)))
]

exp_to : (e : List ℕ) → json.IsExponent e → (b : Bool) × (ds : List ℕ) × keys.IsExp b ds e
exp_to [] h = (false, [], no_exp)
exp_to (c ∷ []) h = absurd h.1
exp_to (c ∷ s ∷ ds) h = elim h.1 [
  | inl signed ↦ let r = signed_to c s ds (e_to c h.0) signed.0 signed.1 in (r.0, ds, r.1)
  | inr digits ↦ (false, s ∷ ds, plain (e_to c h.0) (omega arith, (digit_below s digits.0, digits_below ds digits.1)))
]

plain_back : (ds : List ℕ) → IsNumeral 10 ds → json.IsSignedDigits ds
plain_back [] h = absurd (omega (arith, h.0))
plain_back (d ∷ ds) h = inr (digit_in d h.1.0, digits_in ds h.1.1)

exp_back : (b : Bool) (ds e : List ℕ) → keys.IsExp b ds e → json.IsExponent e
exp_back _ _ _ no_exp = tt
exp_back _ ds (c ∷ _) (plain is h) = (e_back c is, plain_back ds h)
exp_back _ ds (c ∷ _) (with_plus is h) = (e_back c is, inl (refl, digits_of ds h))
exp_back _ ds (c ∷ _) (with_minus is h) = (e_back c is, inl (refl, digits_of ds h))

pub to_keys : (text : List ℕ) → json.IsNumber text → (parts : Parts) × keys.IsNumber parts text
to_keys text n =
    let sign = sign_to n.minus n.is_minus in
    let frac = frac_to n.fraction n.is_fraction in
    let exp = exp_to n.exponent n.is_exponent in (
      record { negative = sign.0; whole = n.int; fraction = frac.0; exponent_negative = exp.0; exponent = exp.1 },
      record {
        sign = n.minus;
        frac = n.fraction;
        exp = n.exponent;
        pieces = n.spelled;
        minus = sign.1;
        int = int_to n.int n.is_int;
        fraction = frac.1;
        exponent = exp.2;
      },
    )

pub to_json : (parts : Parts) (text : List ℕ) → keys.IsNumber parts text → json.IsNumber text
to_json parts text n = record {
  minus = n.sign;
  int = parts.whole;
  fraction = n.frac;
  exponent = n.exp;
  spelled = n.pieces;
  is_minus = sign_back parts.negative n.sign n.minus;
  is_int = int_back parts.whole n.int;
  is_fraction = frac_back parts.fraction n.frac n.fraction;
  is_exponent = exp_back parts.exponent_negative parts.exponent n.exp n.exponent;
}
