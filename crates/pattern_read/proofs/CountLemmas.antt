-- Products and sums up to a limit: `product_more`, `sum_more`, `product_all`.
use Rattle.std.proofs.Common.{◌≡◌, ℕ, zero, suc, ◌+◌, ◌*◌, ◌<◌, min, List, [], ◌∷◌, length, get_or, drop, inl, inr, ap, sym, ◌∙◌, arith}
use Rattle.std.proofs.lemmas.Bool.{cases_lt}
use Rattle.pattern_meaning.specs.PatternView.{field_of, fields_view}
use Rattle.pattern_meaning.specs.Alternatives.{field_count, one_count}
use Rattle.pattern_meaning.specs.declared.pattern.Field.{Field}

capped_left : (a c : ℕ) → min (min a 1001 * c) 1001 ≡ min (a * c) 1001
capped_left a zero = omega arith
capped_left a (suc c) = elim (cases_lt 1001 a) [
  | inl above ↦
      let first : min a 1001 ≡ 1001 = omega arith in
      ap (λ m. min (m * suc c) 1001) first ∙ omega arith
  | inr within ↦ ap (λ m. min (m * suc c) 1001) (let same : min a 1001 ≡ a = omega arith in same)
]

pub product_all : (a b : ℕ) → min (min a 1001 * min b 1001) 1001 ≡ min (a * b) 1001
product_all a b =
    capped_left a (min b 1001) ∙ ap (λ n. min n 1001) (let swap : a * min b 1001 ≡ min b 1001 * a = omega arith in swap)
    ∙ capped_left b a ∙ ap (λ n. min n 1001) (let back : b * a ≡ a * b = omega arith in back)

-- one factor more
pub product_more : (total one rest all : ℕ) → min (total * (one * rest)) 1001 ≡ all → min (min (total * min one 1001) 1001 * rest) 1001 ≡ all
product_more total one rest all h =
    capped_left (total * min one 1001) rest
    ∙ ap (λ n. min n 1001) (let e : total * min one 1001 * rest ≡ min one 1001 * (total * rest) = omega arith in e)
    ∙ capped_left one (total * rest)
    ∙ ap (λ n. min n 1001) (let e : one * (total * rest) ≡ total * (one * rest) = omega arith in e) ∙ h

-- one term more
pub sum_more : (total one rest all : ℕ) → min (total + (one + rest)) 1001 ≡ all → min (min (total + min one 1001) 1001 + rest) 1001 ≡ all
sum_more total one rest all h = (let e : min (min (total + min one 1001) 1001 + rest) 1001 ≡ min (total + (one + rest)) 1001 = omega arith in e) ∙ h

-- the fields from a place on
pub next_field : (fs : List (List ℕ × Field)) (i : ℕ) (f : List ℕ × Field) → i < length fs → f ≡ get_or fs i f
    → field_count (fields_view (drop i fs)) ≡ one_count (field_of f.1) * field_count (fields_view (drop (i + 1) fs))
next_field [] i f inside is = absurd (omega (arith, inside))
next_field (g ∷ fs) zero f inside is = ap (λ (x : List ℕ × Field). one_count (field_of x.1) * field_count (fields_view fs)) (sym is)
next_field (g ∷ fs) (suc i) f inside is =
    next_field fs i f (omega (arith, inside)) is
    ∙ ap (λ n. one_count (field_of f.1) * field_count (fields_view (drop n (g ∷ fs)))) (let e : suc (i + 1) ≡ suc i + 1 = omega arith in e)
