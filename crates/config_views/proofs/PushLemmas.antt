-- Members that are appended one after the other: `two_more`, `five_more`, `times_more`. An item for each of a list: `mapped_more`.
use Rattle.std.proofs.Common.{◌≡◌, ℕ, ◌+◌, ◌<◌, ◌++◌, ◌∙◌, List, [], ◌∷◌, drop, length, map, refl, sym, ap, append_assoc}
use Rattle.std.proofs.Math.ListN.{get_or}
use Rattle.std.proofs.lemmas.List.{at_drop_more, map-append}

pub two_more : {X : Type 0} (xs : List X) (a b : X) → (xs ++ a ∷ []) ++ b ∷ [] ≡ xs ++ a ∷ b ∷ []
two_more [] a b = refl
two_more (x ∷ xs) a b = ap (λ ys. x ∷ ys) (two_more xs a b)

pub five_more : {X : Type 0} (xs : List X) (a b c d e : X)
    → ((((xs ++ a ∷ []) ++ b ∷ []) ++ c ∷ []) ++ d ∷ []) ++ e ∷ [] ≡ xs ++ a ∷ b ∷ c ∷ d ∷ e ∷ []
five_more [] a b c d e = refl
five_more (x ∷ xs) a b c d e = ap (λ ys. x ∷ ys) (five_more xs a b c d e)

-- two, some, one, and some more
pub times_more : {X : Type 0} (xs : List X) (a b : X) (ms : List X) (c : X) (es : List X)
    → ((((xs ++ a ∷ []) ++ b ∷ []) ++ ms) ++ c ∷ []) ++ es ≡ xs ++ a ∷ b ∷ (ms ++ c ∷ es)
times_more [] a b ms c es = ap (λ ys. a ∷ b ∷ ys) (append_assoc ms (c ∷ []) es)
times_more (x ∷ xs) a b ms c es = ap (λ ys. x ∷ ys) (times_more xs a b ms c es)

-- the items so far and what is left, one item on
pub mapped_more : {X Y J : Type 0} (f : X → Y) (h : J → Y) (xs : List X) (i : ℕ) (x : X) (js : List J) (j : J) → i < length xs → x ≡ get_or xs i x
    → h j ≡ f x → map h js ++ map f (drop i xs) ≡ map f xs → map h (js ++ j ∷ []) ++ map f (drop (i + 1) xs) ≡ map f xs
mapped_more f h xs i x js j below is value before =
    let left = drop (i + 1) xs in
    ap (λ ys. ys ++ map f left) (map-append h js (j ∷ []))
    ∙ append_assoc (map h js) (h j ∷ []) (map f left)
    ∙ ap (λ y. map h js ++ y ∷ map f left) (value ∙ ap f is)
    ∙ ap (λ ys. map h js ++ ys) (sym (at_drop_more (λ ys. map f ys) xs i x below))
    ∙ before
