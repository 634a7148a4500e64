-- Lists of paths: `known_first`, `known_second`, `known_both`; equal paths: `same_itself`, `same_is`, `same_last`.
use Rattle.std.proofs.Common.{◌≡◌, ℕ, Bool, true, false, ◌&&◌, ◌||◌, List, [], ◌∷◌, ◌++◌, ◌⊎◌, inl, inr, refl, sym, ap, ◌∙◌, subst}
use Rattle.std.specs.Str.{bytes_eq}
use Rattle.std.specs.List.{AllByRecursion}
use Rattle.std.proofs.lemmas.Bool.{and_parts}
use Rattle.std.proofs.lemmas.Slice.Eq.{bytes_eq-Decides}
use Rattle.pattern_meaning.specs.Meets.{same_path, known_in}
use Rattle.pattern_meaning.proofs.ViewLemmas.{or_parts}

pub or_first : (a b : Bool) → a ≡ true → (a || b) ≡ true
or_first true b h = refl
or_first false b h = cc

pub or_second : (a b : Bool) → b ≡ true → (a || b) ≡ true
or_second true b h = refl
or_second false b h = h

both : (a b : Bool) → a ≡ true → b ≡ true → (a && b) ≡ true
both true b h g = g
both false b h g = cc

pub same_itself : (path : List (List ℕ)) → same_path path path ≡ true
same_itself [] = refl
same_itself (k ∷ path) = both (bytes_eq k k) (same_path path path) ((bytes_eq-Decides k k).1 refl) (same_itself path)

pub same_is : (a b : List (List ℕ)) → same_path a b ≡ true → a ≡ b
same_is [] [] h = refl
same_is [] (k ∷ b) h = cc
same_is (k ∷ a) [] h = cc
same_is (k ∷ a) (j ∷ b) h =
    let parts = and_parts (bytes_eq k j) (same_path a b) h in
    ap (λ x. x ∷ a) ((bytes_eq-Decides k j).0 parts.0) ∙ ap (λ x. j ∷ x) (same_is a b parts.1)

none : (a : Bool) → (a && false) ≡ false
none true = refl
none false = refl

swapped : (a b c : Bool) → (a && (b && c)) ≡ (b && (a && c))
swapped true b c = refl
swapped false b c = sym (none b)

pub no_root : (path : List (List ℕ)) (k : List ℕ) → same_path [] (path ++ k ∷ []) ≡ false
no_root [] k = refl
no_root (j ∷ path) k = refl

pub root_no : (path : List (List ℕ)) (k : List ℕ) → same_path (path ++ k ∷ []) [] ≡ false
root_no [] k = refl
root_no (j ∷ path) k = refl

pub same_last : (a b : List (List ℕ)) (k j : List ℕ) → same_path (a ++ k ∷ []) (b ++ j ∷ []) ≡ (bytes_eq k j && same_path a b)
same_last [] [] k j = refl
same_last [] (c ∷ b) k j = ap (λ x. bytes_eq k c && x) (no_root b j) ∙ none (bytes_eq k c) ∙ sym (none (bytes_eq k j))
same_last (c ∷ a) [] k j = ap (λ x. bytes_eq c j && x) (root_no a k) ∙ none (bytes_eq c j) ∙ sym (none (bytes_eq k j))
same_last (c ∷ a) (d ∷ b) k j = ap (λ x. bytes_eq c d && x) (same_last a b k j) ∙ swapped (bytes_eq c d) (bytes_eq k j) (same_path a b)

pub known_first : (ps qs : List (List (List ℕ))) (path : List (List ℕ)) → known_in ps path ≡ true → known_in (ps ++ qs) path ≡ true
known_first [] qs path h = cc
known_first (p ∷ ps) qs path h = elim (or_parts (same_path p path) (known_in ps path) h) [
  | inl here ↦ or_first (same_path p path) (known_in (ps ++ qs) path) here
  | inr more ↦ or_second (same_path p path) (known_in (ps ++ qs) path) (known_first ps qs path more)
]

pub known_second : (ps qs : List (List (List ℕ))) (path : List (List ℕ)) → known_in qs path ≡ true → known_in (ps ++ qs) path ≡ true
known_second [] qs path h = h
known_second (p ∷ ps) qs path h = or_second (same_path p path) (known_in (ps ++ qs) path) (known_second ps qs path h)

pub known_both : (ps qs : List (List (List ℕ))) (path : List (List ℕ)) → known_in (ps ++ qs) path ≡ true → (known_in ps path ≡ true) ⊎ (known_in qs path ≡ true)
known_both [] qs path h = inr h
known_both (p ∷ ps) qs path h = elim (or_parts (same_path p path) (known_in (ps ++ qs) path) h) [
  | inl here ↦ inl (or_first (same_path p path) (known_in ps path) here)
  | inr more ↦ elim (known_both ps qs path more) [
    | inl first ↦ inl (or_second (same_path p path) (known_in ps path) first)
    | inr second ↦ inr second
  ]
]

-- what is true of all known paths is true of each
pub of_known : (P : List (List ℕ) → Type 0) (ps : List (List (List ℕ))) (path : List (List ℕ)) → AllByRecursion P ps → known_in ps path ≡ true → P path
of_known P [] path all h = cc
of_known P (p ∷ ps) path all h = elim (or_parts (same_path p path) (known_in ps path) h) [
  | inl here ↦ subst P (same_is p path here) all.0
  | inr more ↦ of_known P ps path all.1 more
]
