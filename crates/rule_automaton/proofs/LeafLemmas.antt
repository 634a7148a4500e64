-- The leaves at paths with numbers: `leaf_there`, `leaf_number`.
use Rattle.std.proofs.Common.{◌≡◌, ℕ, zero, suc, ◌+◌, ◌<◌, Some, List, [], ◌∷◌, length, get_or, refl, ap, subst, arith}
use Rattle.std.specs.Prelude.{Contains, IsTrue}
use Rattle.std.specs.List.{enumerate_from}
use Rattle.json_text.specs.Tree.{Tree, null, truth, number, text, list, object}
use Rattle.pattern_meaning.specs.View.{leaf_at}
use Rattle.event_flatten.specs.Leaves.{is_scalar, leaves_at, leaves_with, leaves_of}
use Rattle.rule_automaton.proofs.MemberLemmas.{nothing_in, first, later, map_in, in_map, flat_in, in_flat}

abbrev Numbered : Type 0
Numbered = ℕ × List (List ℕ)

numbered_there : (m : ℕ) (paths : List (List (List ℕ))) (k : ℕ) (d : List (List ℕ)) → k < length paths
    → Contains (enumerate_from m paths) (m + k, get_or paths k d)
numbered_there m [] k d within = absurd (omega (arith, within))
numbered_there m (path ∷ paths) zero d within =
    let e : m ≡ m + 0 = omega arith in
    subst (λ n. Contains (enumerate_from m (path ∷ paths)) (n, path)) e (first (m, path) (enumerate_from (m + 1) paths))
numbered_there m (path ∷ paths) (suc k) d within =
    let e : m + 1 + k ≡ m + suc k = omega arith in
    let rest = numbered_there (m + 1) paths k d (omega (arith, within)) in
    subst (λ n. Contains (enumerate_from m (path ∷ paths)) (n, get_or paths k d)) e (later (m, path) (m + 1 + k, get_or paths k d) (enumerate_from (m + 1) paths) rest)

number_below : (m : ℕ) (paths : List (List (List ℕ))) (x : Numbered) → Contains (enumerate_from m paths) x → x.0 < m + length paths
number_below m [] x c = absurd (nothing_in x c)
number_below m (path ∷ paths) x (zero, within, same) = let e : m ≡ x.0 = ap (λ (y : Numbered). y.0) same in omega arith
number_below m (path ∷ paths) x (suc k, within, same) =
    let rest = number_below (m + 1) paths x (k, omega (arith, within), same) in omega (arith, rest)

pub leaf_there : (paths : List (List (List ℕ))) (event leaf : Tree) (k : ℕ) (d : List (List ℕ)) → k < length paths
    → Contains (leaves_at (get_or paths k d) event) leaf → Contains (leaves_of paths event) (k, leaf)
leaf_there paths event leaf k d within c =
    let path = get_or paths k d in
    flat_in (leaves_with event) (enumerate_from 0 paths) (k, path) (k, leaf)
    (let e : 0 + k ≡ k = omega arith in subst (λ n. Contains (enumerate_from 0 paths) (n, path)) e (numbered_there 0 paths k d within))
    (map_in (λ (l : Tree). (k, l)) (leaves_at path event) leaf c)

pub leaf_number : (paths : List (List (List ℕ))) (event : Tree) (leaf : ℕ × Tree) → Contains (leaves_of paths event) leaf → leaf.0 < length paths
leaf_number paths event leaf c =
    let r = in_flat (leaves_with event) (enumerate_from 0 paths) leaf c in
    let below = number_below 0 paths r.0 r.1 in
    let s = in_map (λ (l : Tree). (r.0.0, l)) (leaves_at r.0.1 event) leaf r.2 in
    let e : r.0.0 ≡ leaf.0 = ap (λ (l : ℕ × Tree). l.0) s.2 in
    omega (arith, below, e)

pub scalar_leaf : (t : Tree) → IsTrue (is_scalar t) → leaf_at [] t ≡ Some t
scalar_leaf null h = refl
scalar_leaf (truth b) h = refl
scalar_leaf (number spelling) h = refl
scalar_leaf (text s) h = refl
scalar_leaf (list items) h = cc
scalar_leaf (object fields) h = cc
