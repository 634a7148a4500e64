-- The ranges of an index are those of its `numeric` tests: `ranges_marked`, `numbers_added`, `no_number`.
use Rattle.std.proofs.Common.{◌≡◌, ◌↔◌, ℕ, zero, suc, ◌<◌, Bool, List, [], ◌∷◌, length, get_or, Option, Some, None, inl, inr, refl, sym, ap, ◌∙◌, subst, arith}
use Rattle.std.specs.Prelude.{◌⊎◌, ℤ, ◌≤ℤ◌}
use Rattle.std.specs.List.{All, AllByRecursion, Any, cons_option, filter_map}
use Rattle.std.proofs.lemmas.List.Elements.{All-from_recursion, recursion_from_All}
use Rattle.std.proofs.lemmas.Option.{none-some, same_Some}
use Rattle.json_text.specs.Tree.{number}
use Rattle.numeric_keys.specs.Number.{IsMillionths}
use Rattle.numeric_keys.specs.Ranges.{AddsHits, Hits}
use Rattle.pattern_meaning.specs.Meets.{SomeMetOf}
use Rattle.pattern_meaning.proofs.AnyLemmas.{any_of, of_any}
use Rattle.pattern_meaning.specs.declared.comparison.Comparison.{Comparison}
use Rattle.pattern_meaning.specs.Pattern.{Test, same, prefix, prefix_ignoring_case, suffix, suffix_ignoring_case, equals_ignoring_case}
use Rattle.pattern_meaning.specs.Pattern.{wildcard, anything_but, numeric, cidr, exists, missing}
use Rattle.pattern_meaning.specs.Holds.{IsMet}
use Rattle.value_index.specs.declared.row.Row.{Row}
use Rattle.value_index.specs.Adds.{Adds, IsNumeric}
use Rattle.value_index.specs.Hits.{Finds}
use Rattle.value_index.specs.Range.{range_of}
use Rattle.value_index.specs.Rows.{comparisons_of, range_with, range_in, test_in, entry_in}
use Rattle.value_index.proofs.RangeLemmas.{meets}

from_comparisons : (test : Test) (cs : List Comparison) → comparisons_of test ≡ Some cs → test ≡ numeric cs
from_comparisons (same scalar) cs e = absurd (none-some cs e)
from_comparisons (prefix bytes) cs e = absurd (none-some cs e)
from_comparisons (prefix_ignoring_case bytes) cs e = absurd (none-some cs e)
from_comparisons (suffix bytes) cs e = absurd (none-some cs e)
from_comparisons (suffix_ignoring_case bytes) cs e = absurd (none-some cs e)
from_comparisons (equals_ignoring_case other) cs e = absurd (none-some cs e)
from_comparisons (wildcard pieces) cs e = absurd (none-some cs e)
from_comparisons (anything_but ts) cs e = absurd (none-some cs e)
from_comparisons (numeric ds) cs e = ap numeric (same_Some ds cs e)
from_comparisons (cidr addresses) cs e = absurd (none-some cs e)
from_comparisons exists cs e = absurd (none-some cs e)
from_comparisons missing cs e = absurd (none-some cs e)

-- the parts of a range
range_is : (mark : ℕ) (o : Option (List Comparison)) (range : ℤ × ℤ × ℕ) → range_with mark o ≡ Some range
    → (cs : List Comparison) × (o ≡ Some cs) × (range ≡ ((range_of cs).0, (range_of cs).1, mark))
range_is mark None range e = absurd (none-some range e)
range_is mark (Some cs) range e = (cs, refl, sym (same_Some ((range_of cs).0, (range_of cs).1, mark) range e))

module _ {X Y : Type 0} (h : X → Option Y) (P : Y → Type 0) where
  mapped_head : (Q : X → Type 0) (x : X) (ys : List Y) (o : Option Y) → h x ≡ o → ((y : Y) → h x ≡ Some y → P y → Q x)
      → SomeMetOf P (cons_option o ys) → Q x ⊎ SomeMetOf P ys
  mapped_head Q x ys None e says some = inr some
  mapped_head Q x ys (Some y) e says (inl here) = inl (says y e here)
  mapped_head Q x ys (Some y) e says (inr more) = inr more

  -- one of what a list gives comes from one of the list
  mapped_from : (Q : X → Type 0) (xs : List X) → ((x : X) (y : Y) → h x ≡ Some y → P y → Q x) → SomeMetOf P (filter_map h xs) → SomeMetOf Q xs
  mapped_from Q [] says some = absurd some
  mapped_from Q (x ∷ xs) says some = elim (mapped_head Q x (filter_map h xs) (h x) refl (says x) some) [
    | inl here ↦ inl here
    | inr more ↦ inr (mapped_from Q xs says more)
  ]

  mapped_more : (x : X) (ys : List Y) (o : Option Y) → SomeMetOf P ys → SomeMetOf P (cons_option o ys)
  mapped_more x ys None some = some
  mapped_more x ys (Some y) some = inr some

  -- and what one of the list gives is there
  mapped_at : (xs : List X) (k : ℕ) (d : X) (y : Y) → k < length xs → h (get_or xs k d) ≡ Some y → P y → SomeMetOf P (filter_map h xs)
  mapped_at [] k d y within e fact = absurd (omega (arith, within))
  mapped_at (x ∷ xs) zero d y within e fact = subst (λ o. SomeMetOf P (cons_option o (filter_map h xs))) (sym e) (inl fact)
  mapped_at (x ∷ xs) (suc k) d y within e fact = mapped_more x (filter_map h xs) (h x) (mapped_at xs k d y (omega (arith, within)) e fact)

  mapped_all_head : (x : X) (ys : List Y) (o : Option Y) → h x ≡ o → ((y : Y) → h x ≡ Some y → P y) → AllByRecursion P ys
      → AllByRecursion P (cons_option o ys)
  mapped_all_head x ys None e says all = all
  mapped_all_head x ys (Some y) e says all = (says y e, all)

  mapped_all : (Q : X → Type 0) (xs : List X) → ((x : X) (y : Y) → h x ≡ Some y → Q x → P y) → AllByRecursion Q xs → AllByRecursion P (filter_map h xs)
  mapped_all Q [] says all = tt
  mapped_all Q (x ∷ xs) says all = mapped_all_head x (filter_map h xs) (h x) refl (λ y e. says x y e all.0) (mapped_all Q xs says all.1)

pub ranges_marked : (rows : List Row) (ranges : List (ℤ × ℤ × ℕ)) (n : ℕ) → ranges ≡ filter_map range_in rows → All (λ (r : Row). r.mark < n) rows
    → All (λ (range : ℤ × ℤ × ℕ). range.2 < n) ranges
ranges_marked rows ranges n is all =
    let bound : ℤ × ℤ × ℕ → Type 0 = λ range. range.2 < n in
    let marked : Row → Type 0 = λ r. r.mark < n in
    subst (All bound) (sym is)
    (All-from_recursion bound (filter_map range_in rows)
    (mapped_all range_in bound marked rows
    (λ row range e h. let r = range_is row.mark (comparisons_of (test_in row)) range e in subst bound (sym r.2) h)
    (recursion_from_All marked rows all)))

module _ (rows : List Row) (ranges : List (ℤ × ℤ × ℕ)) (t : List ℕ) (o : Option ℤ) (is : (m : ℤ) → (o ≡ Some m) ↔ IsMillionths t m) where
  pub numbers_added : (m : ℤ) (old new : List Bool) → o ≡ Some m → ranges ≡ filter_map range_in rows → AddsHits ranges m old new
      → Adds IsNumeric rows (number t) old new
  numbers_added m old new some same_ranges hits = record {
    same_places = hits.same_places;
    kept = λ p h. (hits.marked p).1 (inl h);
    only = λ p h. elim ((hits.marked p).0 h) [
      | inl before ↦ inl before
      | inr hit ↦
          let held = any_of (Hits m p) (filter_map range_in rows) (subst (Any (Hits m p)) same_ranges hit) in
          inr (of_any (λ (r : Row). Finds (number t) p (entry_in r)) rows (mapped_from range_in (Hits m p) (λ (r : Row). Finds (number t) p (entry_in r)) rows (from_hit p) held))
    ];
    found = λ k d within numeric_row met.
        let row = get_or rows k d in
        let cs = numeric_row.0 in
        let range : ℤ × ℤ × ℕ = ((range_of cs).0, (range_of cs).1, row.mark) in
        let at : range_in row ≡ Some range = ap (λ x. range_with row.mark (comparisons_of x)) numeric_row.1 in
        let inside = met_inside cs (subst (λ x. IsMet x (number t)) numeric_row.1 met) in
        let held : Hits m row.mark range = (refl, inside.0, inside.1) in
        (hits.marked row.mark).1 (inr (subst (Any (Hits m row.mark)) (sym same_ranges) (of_any (Hits m row.mark) (filter_map range_in rows) (mapped_at range_in (Hits m row.mark) rows k d range within at held))));
  }
    where
      spelled : (a b : List ℕ) → number a ≡ number b → a ≡ b
      spelled a b e = cc

      met_inside : (cs : List Comparison) → IsMet (numeric cs) (number t) → ((range_of cs).0 ≤ℤ m) × (m ≤ℤ (range_of cs).1)
      met_inside cs met =
          let its : IsMillionths t met.1 = subst (λ u. IsMillionths u met.1) (sym (spelled t met.0 met.2)) met.3 in
          let same : m ≡ met.1 = same_Some m met.1 (sym some ∙ (is met.1).1 its) in
          subst (λ n. ((range_of cs).0 ≤ℤ n) × (n ≤ℤ (range_of cs).1)) (sym same) ((meets t met.1 cs its).1 met.4)

      from_hit : (p : ℕ) (row : Row) (range : ℤ × ℤ × ℕ) → range_in row ≡ Some range → Hits m p range → Finds (number t) p (entry_in row)
      from_hit p row range e held =
          let r = range_is row.mark (comparisons_of (test_in row)) range e in
          let at : Hits m p ((range_of r.0).0, (range_of r.0).1, row.mark) = subst (Hits m p) r.2 held in
          let its = (is m).0 some in
          let met : IsMet (numeric r.0) (number t) = (t, m, refl, its, (meets t m r.0 its).0 (at.1, at.2)) in
          (at.0, subst (λ x. IsMet x (number t)) (sym (from_comparisons (test_in row) r.0 r.1)) met)

  pub no_number : o ≡ None → (row : Row) → IsNumeric row → IsMet (test_in row) (number t) → ⊥
  no_number none row numeric_row met =
      let m = subst (λ x. IsMet x (number t)) numeric_row.1 met in
      let its : IsMillionths t m.1 = subst (λ u. IsMillionths u m.1) (sym (spelled t m.0 m.2)) m.3 in
      none-some m.1 (sym none ∙ (is m.1).1 its)
    where
      spelled : (a b : List ℕ) → number a ≡ number b → a ≡ b
      spelled a b e = cc
