-- Leaves of the code that are sorted: `sorted_pairs`, `same_filtered` for the sort, `number_found` for the leaves with a number,
-- `numbered_map` and `rises_map` for what contracts see of them.
use Rattle.std.proofs.Common.{◌≡◌, ℕ, suc, ◌+◌, ◌<◌, ◌≤◌, true, false, List, [], ◌∷◌, ◌++◌, length, map, filter, get_or, take, drop, refl, sym, ap, ap₂, ◌∙◌, subst, arith, inl, inr, ⊎_elim, append-nil, Ordering, IsPermutation}
use Rattle.std.specs.Prelude.{◌==◌, All}
use Rattle.std.specs.List.{AllByRecursion}
use Rattle.std.specs.List.Sorted.{IsNonDecreasingBy, IsSortedByKey}
use Rattle.std.specs.Cmp.{IsTotalOrder}
use Rattle.std.specs.Ordering.{nat_cmp, is_lt, ordering_then}
use Rattle.std.proofs.lemmas.Bool.{cases_Bool, cases_order, cond-true, cond-false, eqb-true, eq-eqb, ne_eqb}
use Rattle.std.proofs.lemmas.Bool.Decides.{nat_tests}
use Rattle.std.proofs.lemmas.Cmp.{nat_cmp_total, on_total, then_total}
use Rattle.std.proofs.lemmas.List.{take-append-drop}
use Rattle.std.proofs.lemmas.List.Elements.{recursion_from_All, filter-append}
use Rattle.std.proofs.lemmas.List.Sorted.{sorted_far, ranks_by}
use Rattle.json_text.specs.Tree.{Tree}
use Rattle.event_flatten.specs.declared.leaf.Leaf.{Leaf}
use Rattle.event_flatten.specs.LeafView.{leaf_of, IsInOrder}
use Rattle.event_flatten.specs.Leaves.{has_number, numbered}
use Rattle.event_flatten.proofs.SortLemmas.{Rises, Climbs, Climbs-filter, IsPermutation-filter, same_order, filter_all, filter_none}
use Rattle.event_flatten.proofs.LeafLemmas.{number_of}

abbrev pub pair_cmp : ℕ × ℕ → ℕ × ℕ → Ordering
pair_cmp a b = ordering_then (nat_cmp a.0 b.0) (nat_cmp a.1 b.1)

pair_total : IsTotalOrder pair_cmp
pair_total = then_total (on_total (λ (p : ℕ × ℕ). p.0) nat_cmp_total) (on_total (λ (p : ℕ × ℕ). p.1) nat_cmp_total)

abbrev pub pair_of : Leaf → ℕ × ℕ
pair_of leaf = (leaf.number, leaf.order)

-- of leaves that are sorted a later one has a greater number, or the same and no lesser order
abbrev pub IsLater : Leaf → Leaf → Type 0
IsLater a b = (a.number ≤ b.number) × (a.number ≡ b.number → a.order ≤ b.order)

not_less : (a b c d : ℕ) → is_lt (ordering_then (nat_cmp a b) (nat_cmp c d)) ≡ false → (b ≤ a) × (b ≡ a → d ≤ c)
not_less a b c d h = ⊎_elim
    (λ same. (omega arith, λ _. grind (arith, nat_tests)))
    (λ apart. ⊎_elim (λ less. absurd (grind (arith, nat_tests))) (λ more. (omega arith, λ e. omega arith)) apart)
    (cases_order a b)

pub sorted_pairs : (leaves : List Leaf) → IsSortedByKey pair_of pair_cmp leaves
    → (i j : ℕ) (d : Leaf) → i ≤ j → j < length leaves → IsLater (get_or leaves i d) (get_or leaves j d)
sorted_pairs leaves up i j d le within =
    let a = get_or leaves j d in
    let b = get_or leaves i d in
    not_less a.number b.number a.order b.order
    (sorted_far (λ x y. is_lt (pair_cmp (pair_of x) (pair_of y))) (ranks_by pair_total pair_of) leaves up i j d le within)

all_of_number : (n : ℕ) (leaf : Leaf) (leaves : List Leaf) → leaf.number ≡ n → AllByRecursion (IsLater leaf) leaves
    → AllByRecursion (λ other. leaf.order ≤ other.order) (filter (λ other. other.number == n) leaves)
all_of_number n leaf [] is all = tt
all_of_number n leaf (other ∷ leaves) is all =
    let more = all_of_number n leaf leaves is all.1 in
    elim (cases_Bool (other.number == n)) [
      | inl same ↦ subst (AllByRecursion (λ x. leaf.order ≤ x.order)) (sym (cond-true (other.number == n) (other ∷ filter (λ x. x.number == n) leaves) (filter (λ x. x.number == n) leaves) same))
          (all.0.1 (is ∙ sym (eqb-true other.number n same)), more)
      | inr apart ↦ subst (AllByRecursion (λ x. leaf.order ≤ x.order)) (sym (cond-false (other.number == n) (other ∷ filter (λ x. x.number == n) leaves) (filter (λ x. x.number == n) leaves) apart)) more
    ]

rises_of_number : (n : ℕ) (leaves : List Leaf) → ((i j : ℕ) (d : Leaf) → i ≤ j → j < length leaves → IsLater (get_or leaves i d) (get_or leaves j d))
    → Rises (λ leaf. leaf.order) (filter (λ leaf. leaf.number == n) leaves)
rises_of_number n [] later = tt
rises_of_number n (leaf ∷ leaves) later =
    let more = rises_of_number n leaves (λ i j d le within. later (suc i) (suc j) d (omega arith) (omega arith)) in
    let all : AllByRecursion (IsLater leaf) leaves =
    recursion_from_All (IsLater leaf) leaves (λ k d within. later 0 (suc k) d (omega arith) (omega arith)) in
    elim (cases_Bool (leaf.number == n)) [
      | inl same ↦ subst (Rises (λ x. x.order)) (sym (cond-true (leaf.number == n) (leaf ∷ filter (λ x. x.number == n) leaves) (filter (λ x. x.number == n) leaves) same))
          (all_of_number n leaf leaves (eqb-true leaf.number n same) all, more)
      | inr apart ↦ subst (Rises (λ x. x.order)) (sym (cond-false (leaf.number == n) (leaf ∷ filter (λ x. x.number == n) leaves) (filter (λ x. x.number == n) leaves) apart)) more
    ]

climbs_from : (m : ℕ) (leaves : List Leaf) → ((k : ℕ) (d : Leaf) → k < length leaves → (get_or leaves k d).order ≡ m + k) → Climbs (λ leaf. leaf.order) leaves
climbs_from m [] is = tt
climbs_from m (leaf ∷ leaves) is = (
  recursion_from_All (λ later. leaf.order < later.order) leaves (λ k d within.
      let first : leaf.order ≡ m + 0 = is 0 leaf (omega arith) in
      let other : (get_or leaves k d).order ≡ m + suc k = is (suc k) d (omega arith) in
      omega arith),
  climbs_from (m + 1) leaves (λ k d within. is (suc k) d (omega arith) ∙ omega arith),
)

-- the sort keeps the leaves of each number in their order
pub same_filtered : (old new : List Leaf) (n : ℕ) → IsInOrder old → IsPermutation old new → IsSortedByKey pair_of pair_cmp new
    → filter (λ leaf. leaf.number == n) new ≡ filter (λ leaf. leaf.number == n) old
same_filtered old new n order moved up =
    same_order (λ leaf. leaf.order) (filter (λ leaf. leaf.number == n) old) (filter (λ leaf. leaf.number == n) new)
    (Climbs-filter (λ leaf. leaf.order) (λ leaf. leaf.number == n) old (climbs_from 0 old (λ k d within. order k d within ∙ omega arith)))
    (IsPermutation-filter (λ leaf. leaf.number == n) old new moved)
    (rises_of_number n new (sorted_pairs new up))

rises_from : (leaves : List Leaf) → IsNonDecreasingBy (λ leaf. leaf.number) leaves → Rises number_of (map leaf_of leaves)
rises_from [] up = tt
rises_from (leaf ∷ leaves) up = (
  all_map leaves (recursion_from_All (λ later. leaf.number ≤ later.number) leaves (λ k d within. up 0 (suc k) d (omega arith) (omega arith))),
  rises_from leaves (λ i j d le within. up (suc i) (suc j) d (omega arith) (omega arith)),
)
  where
    all_map : (others : List Leaf) → AllByRecursion (λ later. leaf.number ≤ later.number) others → AllByRecursion (λ later. leaf.number ≤ later.0) (map leaf_of others)
    all_map [] h = tt
    all_map (other ∷ others) h = (h.0, all_map others h.1)

pub rises_map : (leaves : List Leaf) (seen : List (ℕ × Tree)) → map leaf_of leaves ≡ seen → IsNonDecreasingBy (λ leaf. leaf.number) leaves → Rises number_of seen
rises_map leaves seen is up = subst (Rises number_of) is (rises_from leaves up)

-- what contracts see of the leaves with a number
pub filter_map_is : (n : ℕ) (leaves : List Leaf) → filter (has_number n) (map leaf_of leaves) ≡ map leaf_of (filter (λ leaf. leaf.number == n) leaves)
filter_map_is n [] = refl
filter_map_is n (leaf ∷ leaves) = elim (cases_Bool (leaf.number == n)) [
  | inl same ↦ cond-true (leaf.number == n) (leaf_of leaf ∷ filter (has_number n) (map leaf_of leaves)) (filter (has_number n) (map leaf_of leaves)) same
      ∙ ap (λ r. leaf_of leaf ∷ r) (filter_map_is n leaves)
      ∙ sym (ap (map leaf_of) (cond-true (leaf.number == n) (leaf ∷ filter (λ x. x.number == n) leaves) (filter (λ x. x.number == n) leaves) same))
  | inr apart ↦ cond-false (leaf.number == n) (leaf_of leaf ∷ filter (has_number n) (map leaf_of leaves)) (filter (has_number n) (map leaf_of leaves)) apart
      ∙ filter_map_is n leaves
      ∙ sym (ap (map leaf_of) (cond-false (leaf.number == n) (leaf ∷ filter (λ x. x.number == n) leaves) (filter (λ x. x.number == n) leaves) apart))
]

pub numbered_map : (n : ℕ) (new old : List Leaf) (seen : List (ℕ × Tree)) → map leaf_of old ≡ seen
    → filter (λ leaf. leaf.number == n) new ≡ filter (λ leaf. leaf.number == n) old → numbered n (map leaf_of new) ≡ numbered n seen
numbered_map n new old seen is same =
    ap (map (λ leaf. leaf.1)) (filter_map_is n new ∙ ap (map leaf_of) same ∙ sym (filter_map_is n old) ∙ ap (filter (has_number n)) is)

-- the part between two places has the leaves with the number
pub number_found : (n from count : ℕ) (leaves : List Leaf)
    → All (λ leaf. leaf.number < n) (take from leaves)
    → All (λ leaf. leaf.number ≡ n) (take count (drop from leaves))
    → All (λ leaf. n < leaf.number) (drop count (drop from leaves))
    → take count (drop from leaves) ≡ filter (λ leaf. leaf.number == n) leaves
number_found n from count leaves first second third =
    let test = λ (leaf : Leaf). leaf.number == n in
    let a = take from leaves in
    let b = take count (drop from leaves) in
    let c = drop count (drop from leaves) in
    let whole : leaves ≡ a ++ (b ++ c) = sym (ap (λ x. a ++ x) (take-append-drop count (drop from leaves)) ∙ take-append-drop from leaves) in
    let one : filter test a ≡ [] = filter_none test a (recursion_from_All (λ leaf. (leaf.number == n) ≡ false) a (λ k d h. ne_eqb _ n (λ e. omega (arith, first k d h)))) in
    let two : filter test b ≡ b = filter_all test b (recursion_from_All (λ leaf. (leaf.number == n) ≡ true) b (λ k d h. eq-eqb _ n (second k d h))) in
    let three : filter test c ≡ [] = filter_none test c (recursion_from_All (λ leaf. (leaf.number == n) ≡ false) c (λ k d h. ne_eqb _ n (λ e. omega (arith, third k d h)))) in
    sym (ap (filter test) whole ∙ filter-append test a (b ++ c) ∙ ap (λ x. filter test a ++ x) (filter-append test b c)
    ∙ ap₂ ◌++◌ one (ap₂ ◌++◌ two three) ∙ append-nil b)
