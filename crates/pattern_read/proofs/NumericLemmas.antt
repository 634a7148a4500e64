-- The operand of `numeric` is one comparison or two: `two_items`, `four_items`, `other_items`.
use Rattle.std.proofs.Common.{◌≡◌, ◌≢◌, List, [], ◌∷◌, length, get_or, sym, ap, subst, arith, MatchOption, Option}
use Rattle.json_text.specs.Tree.{Tree, list, items_of}
use Rattle.json_text.specs.View.{tree_of, trees_of}
use Rattle.json_text.specs.declared.value.Json.{Json}
use Rattle.pattern_meaning.specs.declared.comparison.Comparison.{Comparison}
use Rattle.pattern_read.specs.Test.{IsComparison, AreComparisons}

-- a comparison of the same values
pub compared : (r : Option Comparison) (x y a b : Tree) → x ≡ a → y ≡ b
    → MatchOption r ((c : Comparison) → ¬ (IsComparison a b c)) (IsComparison a b)
    → MatchOption r ((c : Comparison) → ¬ (IsComparison x y c)) (IsComparison x y)
compared r x y a b e d h =
    let P : Tree → Tree → Type 0 = λ u v. MatchOption r ((c : Comparison) → ¬ (IsComparison u v c)) (IsComparison u v) in
    subst (λ u. P u y) (sym e) (subst (λ v. P a v) (sym d) h)

-- the first two of four values are no comparison
pub first_of_four : (xs : List Json) (a b : Json) → length xs ≡ 4 → a ≡ get_or xs 0 a → b ≡ get_or xs 1 b
    → ((c : Comparison) → ¬ (IsComparison (tree_of a) (tree_of b) c)) → (cs : List Comparison) → ¬ (AreComparisons (list (items_of (trees_of xs))) cs)
first_of_four (x ∷ y ∷ z ∷ w ∷ []) a b four first second none cs h =
    let P : Tree → Tree → Type 0 = λ u v. IsComparison u v h.0 in
    none h.0 (subst (λ u. P u (tree_of b)) (sym (ap tree_of first)) (subst (P (tree_of x)) (sym (ap tree_of second)) h.2))
first_of_four [] a b four first second none cs h = h
first_of_four (x ∷ []) a b four first second none cs h = h
first_of_four (x ∷ y ∷ []) a b four first second none cs h = absurd (omega (arith, four))
first_of_four (x ∷ y ∷ z ∷ []) a b four first second none cs h = h
first_of_four (x ∷ y ∷ z ∷ w ∷ v ∷ xs) a b four first second none cs h = absurd (omega (arith, four))

-- nor the last two
pub last_of_four : (xs : List Json) (a b : Json) → length xs ≡ 4 → a ≡ get_or xs 2 a → b ≡ get_or xs 3 b
    → ((c : Comparison) → ¬ (IsComparison (tree_of a) (tree_of b) c)) → (cs : List Comparison) → ¬ (AreComparisons (list (items_of (trees_of xs))) cs)
last_of_four (x ∷ y ∷ z ∷ w ∷ []) a b four first second none cs h =
    let P : Tree → Tree → Type 0 = λ u v. IsComparison u v h.1 in
    none h.1 (subst (λ u. P u (tree_of b)) (sym (ap tree_of first)) (subst (P (tree_of z)) (sym (ap tree_of second)) h.3))
last_of_four [] a b four first second none cs h = h
last_of_four (x ∷ []) a b four first second none cs h = h
last_of_four (x ∷ y ∷ []) a b four first second none cs h = absurd (omega (arith, four))
last_of_four (x ∷ y ∷ z ∷ []) a b four first second none cs h = h
last_of_four (x ∷ y ∷ z ∷ w ∷ v ∷ xs) a b four first second none cs h = absurd (omega (arith, four))

-- neither two values nor four
pub other_items : (xs : List Json) → length xs ≢ 2 → length xs ≢ 4 → (cs : List Comparison) → ¬ (AreComparisons (list (items_of (trees_of xs))) cs)
other_items [] not_two not_four cs h = h
other_items (x ∷ []) not_two not_four cs h = h
other_items (x ∷ y ∷ []) not_two not_four cs h = not_two (omega arith)
other_items (x ∷ y ∷ z ∷ []) not_two not_four cs h = h
other_items (x ∷ y ∷ z ∷ w ∷ []) not_two not_four cs h = not_four (omega arith)
other_items (x ∷ y ∷ z ∷ w ∷ v ∷ xs) not_two not_four cs h = h
