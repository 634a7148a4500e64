-- Which statement a name is of: `names_from-len`, `named_at`, `first_at`.
use Rattle.std.proofs.Common.{◌≡◌, ◌<◌, ℕ, zero, suc, ◌+◌, List, [], ◌∷◌, length, get_or, drop, refl, sym, ap, ◌∙◌, subst, inl, arith}
use Rattle.std.proofs.lemmas.List.{at_drop_more}
use Rattle.json_text.specs.Tree.{items_of}
use Rattle.json_text.specs.View.{tree_of, trees_of}
use Rattle.json_text.specs.declared.value.Json.{Json}
use Rattle.bus_policy.specs.Verdict.{Asker, name_of, names_from, Denies, FirstDenies}

pub names_from-len : (place : ℕ) (xs : List Json) → length (names_from place (items_of (trees_of xs))) ≡ length xs
names_from-len place [] = refl
names_from-len place (x ∷ xs) = ap suc (names_from-len (place + 1) xs)

pub named_at : (place : ℕ) (xs : List Json) (i : ℕ) (x : Json) (name : List ℕ) → i < length xs → x ≡ get_or xs i x
    → name ≡ get_or (names_from place (items_of (trees_of xs))) i name → name ≡ name_of (place + i) (tree_of x)
named_at place [] i x name h e n = absurd (omega arith)
named_at place (y ∷ xs) zero x name h e n = n ∙ ap (λ j. name_of place (tree_of j)) (sym e) ∙ ap (λ k. name_of k (tree_of x)) (omega arith)
named_at place (y ∷ xs) (suc i) x name h e n =
    named_at (place + 1) xs i x name (omega arith) e n ∙ ap (λ k. name_of k (tree_of x)) (omega arith)

pub first_at : (a : Asker) (xs : List Json) (i : ℕ) (x : Json) (name : List ℕ) → i < length xs → x ≡ get_or xs i x
    → Denies a (tree_of x) → name ≡ name_of (1 + i) (tree_of x)
    → FirstDenies a (i + 1) (items_of (trees_of (drop i xs))) name
first_at a xs i x name h e denies n =
    let cut : drop i xs ≡ x ∷ drop (i + 1) xs = at_drop_more (λ ys. ys) xs i x h ∙ ap (λ y. y ∷ drop (i + 1) xs) (sym e) in
    let named : name ≡ name_of (i + 1) (tree_of x) = n ∙ ap (λ k. name_of k (tree_of x)) (omega arith) in
    subst (λ ys. FirstDenies a (i + 1) (items_of (trees_of ys)) name) (sym cut) (inl (denies, named))
