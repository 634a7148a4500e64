-- Numbers, part by part: `number_begins`, `digit_begins`, `more_begin`.
use Rattle.std.proofs.Common.{◌≡◌, ℕ, ◌≤◌, true, List, [], ◌∷◌, ◌++◌, refl, sym, ap, ◌∙◌, arith, append_assoc}
use Rattle.std.proofs.lemmas.Bool.Decides.{nat_tests}
use Rattle.std.specs.Char.{is_ascii_digit}
use Rattle.json_text.specs.Number.{AreDigits, IsInt, IsFraction, IsExponent, IsMinus, IsNumber, is_digit_above_zero}
use Rattle.event_text.specs.Written.{Begins}

pub number_begins : (bytes int fraction exponent rest : List ℕ) → Begins IsMinus bytes int → Begins IsInt int fraction → Begins IsFraction fraction exponent
    → Begins IsExponent exponent rest → Begins IsNumber bytes rest
number_begins bytes int fraction exponent rest m i f e = record {
  front = m.front ++ (i.front ++ (f.front ++ e.front));
  has = record {
    minus = m.front;
    int = i.front;
    fraction = f.front;
    exponent = e.front;
    spelled = refl;
    is_minus = m.has;
    is_int = i.has;
    is_fraction = f.has;
    is_exponent = e.has;
  };
  written = m.written ∙ ap (λ x. m.front ++ x) (i.written ∙ ap (λ x. i.front ++ x) (f.written ∙ ap (λ x. f.front ++ x) e.written
      ∙ sym (append_assoc f.front e.front rest)) ∙ sym (append_assoc i.front (f.front ++ e.front) rest)) ∙ sym (append_assoc m.front (i.front ++ (f.front ++ e.front)) rest);
}

-- a byte, and bytes with a property
pub more_begin : {P : List ℕ → Type 0} (Q : List ℕ → Type 0) (b : ℕ) (bytes left rest : List ℕ) → bytes ≡ b ∷ left → (more : Begins P left rest) → Q (b ∷ more.front)
    → Begins Q bytes rest
more_begin Q b bytes left rest is more has = record { front = b ∷ more.front; has = has; written = is ∙ ap (λ x. b ∷ x) more.written }

-- one byte, or none
pub one_begins : (Q : List ℕ → Type 0) (b : ℕ) (bytes rest : List ℕ) → bytes ≡ b ∷ rest → Q (b ∷ []) → Begins Q bytes rest
one_begins Q b bytes rest is has = record { front = b ∷ []; has = has; written = is }

pub none_begins : (Q : List ℕ → Type 0) (bytes : List ℕ) → Q [] → Begins Q bytes bytes
none_begins Q bytes has = record { front = []; has = has; written = refl }

pub digit_is : (b : ℕ) → 48 ≤ b → b ≤ 57 → is_ascii_digit b ≡ true
digit_is b low high = grind (arith, nat_tests)

pub above_zero : (b : ℕ) → 49 ≤ b → b ≤ 57 → is_digit_above_zero b ≡ true
above_zero b low high = grind (arith, nat_tests)

digits_joined : (ds : List ℕ) (b : ℕ) → AreDigits ds → is_ascii_digit b ≡ true → AreDigits (ds ++ b ∷ [])
digits_joined [] b h digit = (digit, tt)
digits_joined (d ∷ ds) b h digit = (h.0, digits_joined ds b h.1 digit)

pub digit_begins : (bytes left rest : List ℕ) (b : ℕ) → Begins AreDigits bytes left → left ≡ b ∷ rest → is_ascii_digit b ≡ true → Begins AreDigits bytes rest
digit_begins bytes left rest b p is digit = record {
  front = p.front ++ b ∷ [];
  has = digits_joined p.front b p.has digit;
  written = p.written ∙ ap (λ x. p.front ++ x) is ∙ sym (append_assoc p.front (b ∷ []) rest);
}
