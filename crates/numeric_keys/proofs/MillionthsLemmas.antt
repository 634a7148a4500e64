-- The clauses of `millionths` at each of its ends, from the parts that it read and the size that it
-- found
use Rattle.std.proofs.Common.{◌≡◌, ℕ, ◌≤◌, List, sym, subst, ◌∙◌, ap, Option, Some, None, ◌↔◌}
use Rattle.std.specs.Prelude.{ℤ, pos, neg_ℤ, if◌then◌else◌}
use Rattle.std.specs.Str.Parse.{AllDigits}
use Rattle.std.proofs.lemmas.Option.{none-some, same_Some}
use Rattle.numeric_keys.specs.Number.{Parts, IsMillionths, HasSize, largest_size}
use Rattle.numeric_keys.specs.NumberReader.{number_of}
use Rattle.numeric_keys.proofs.NumberLemmas.{number_of_spelled, spelled_of_number, int_digits, fraction_digits, exponent_digits}

pub whole_digits_read : (text : List ℕ) (parts : Parts) → number_of text ≡ Some parts →
    AllDigits 10 parts.whole
whole_digits_read text parts h = int_digits parts.whole (spelled_of_number parts text h).int

pub fraction_digits_read : (text : List ℕ) (parts : Parts) → number_of text ≡ Some parts →
    AllDigits 10 parts.fraction
fraction_digits_read text parts h =
    fraction_digits parts.fraction _ (spelled_of_number parts text h).fraction

pub exponent_digits_read : (text : List ℕ) (parts : Parts) → number_of text ≡ Some parts →
    AllDigits 10 parts.exponent
exponent_digits_read text parts h =
    exponent_digits parts.exponent_negative parts.exponent _
    (spelled_of_number parts text h).exponent

-- a text that spells no number has no millionths
pub no_number : (text : List ℕ) (m : ℤ) → number_of text ≡ None →
    (◌≡◌ {A = Option ℤ} None (Some m)) ↔ IsMillionths text m
no_number text m h = (
  λ e. absurd (none-some m e),
  λ has. absurd (none-some has.parts (sym h ∙ number_of_spelled has.parts text has.spelled)),
)

-- the parts are those that were read
has_size_read : (text : List ℕ) (m : ℤ) (parts : Parts) → number_of text ≡ Some parts →
    (has : IsMillionths text m) → has.parts ≡ parts
has_size_read text m parts h has =
    same_Some has.parts parts (sym (number_of_spelled has.parts text has.spelled) ∙ h)

-- a number that has no size that is small enough has no millionths
pub no_size : (text : List ℕ) (m : ℤ) (parts : Parts) → number_of text ≡ Some parts →
    ((size : ℕ) → size ≤ largest_size → HasSize parts size → ◌≡◌ {A = Option ℕ} None (Some size)) →
    (◌≡◌ {A = Option ℤ} None (Some m)) ↔ IsMillionths text m
no_size text m parts h none = (
  λ e. absurd (none-some m e),
  λ has.
      let P : Parts → Type 0 = λ p. HasSize p has.size in
      absurd (none-some has.size
      (none has.size has.within (subst P (has_size_read text m parts h has) has.value))),
)

-- a size that was found, with its sign, is the one answer
pub found : (text : List ℕ) (m : ℤ) (parts : Parts) (size : ℕ) (z : ℤ) →
    number_of text ≡ Some parts → size ≤ largest_size → HasSize parts size →
    ((other : ℕ) → other ≤ largest_size → HasSize parts other →
    ◌≡◌ {A = Option ℕ} (Some size) (Some other)) →
    z ≡ (if parts.negative then neg_ℤ (pos size) else pos size) →
    (Some z ≡ Some m) ↔ IsMillionths text m
found text m parts size z h within value every signed = (there, back)
  where
    there : Some z ≡ Some m → IsMillionths text m
    there e = record {
      parts = parts;
      size = size;
      spelled = spelled_of_number parts text h;
      value = value;
      signed = sym (same_Some z m e) ∙ signed;
      within = within;
    }

    back : IsMillionths text m → Some z ≡ Some m
    back has =
        let P : Parts → Type 0 = λ p. HasSize p has.size in
        let same : has.parts ≡ parts = has_size_read text m parts h has in
        let size_same : size ≡ has.size =
        same_Some size has.size (every has.size has.within (subst P same has.value)) in
        ap Some (signed ∙ ap (λ (n : ℕ). if parts.negative then neg_ℤ (pos n) else pos n) size_same
        ∙ ap (λ (p : Parts). if p.negative then neg_ℤ (pos has.size) else pos has.size) (sym same)
        ∙ sym has.signed)
