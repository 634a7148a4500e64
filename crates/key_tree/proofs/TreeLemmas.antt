-- Subtrees: what is known of the sides of a fork.
use Rattle.std.proofs.Common.{◌≡◌, ◌≤◌, ◌≢◌, ℕ, ◌+◌, ◌<◌, List, [], ◌∷◌, ◌++◌, Option, Some, None, MatchOption, Box, refl, ap, sym, ◌∙◌, subst, arith, length, length-append}
use Rattle.std.specs.declared.alloc.Global.{Global}
use Rattle.key_tree.specs.Entries.{from_key, placed, value_at, without, AreSorted}
use Rattle.key_tree.specs.Subtree.{entries, entry_of, entries_in, HasFirst, IsLeaf}
use Rattle.key_tree.specs.declared.subtree.Subtree.{Subtree}
use Rattle.key_tree.specs.declared.subtree.Subtree.TheVariants.{Full}
use Rattle.key_tree.specs.declared.subtree.Fork.{Fork}
use Rattle.key_tree.proofs.EntryLemmas.{from_before, from_after, IsAround, around, new_parts, value_before, value_after, value_here, without_before, without_after, without_here, placed_before, placed_after}

-- what is known of a tree that is not empty: `here` is its fork
pub record HasSides {V : Type 0} (tree : Subtree V) (here : Fork V) : Type 0 where
  pub is : entries tree ≡ entries_in here
  pub sorted : AreSorted (entries_in here)
  pub parts : IsAround (entries here.lower) (entry_of here) (entries here.upper)
  pub size : length (entries tree) ≡ length (entries here.lower) + (length (entries here.upper) + 1)

pub sides : {V : Type 0} (tree : Subtree V) (top : Box (Fork V) Global) (here : Fork V) → tree ≡ Full top → AreSorted (entries tree) → here ≡ top.value
    → HasSides tree here
sides tree top here is s e =
    let all : entries tree ≡ entries_in here = ap entries is ∙ ap entries_in (sym e) in
    let sorted = subst AreSorted all s in
    record {
      is = all;
      sorted = sorted;
      parts = around (entries here.lower) (entry_of here) (entries here.upper) sorted;
      size = omega (arith, ap length all, length-append (entries here.lower) (entry_of here ∷ entries here.upper));
    }

pub value_lower : {V : Type 0} (key : ℕ) (tree : Subtree V) (here : Fork V) → HasSides tree here → key < here.key
    → value_at key (entries tree) ≡ value_at key (entries here.lower)
value_lower key tree here t h = ap (value_at key) t.is ∙ value_before key (entries here.lower) (entry_of here) (entries here.upper) t.sorted h

pub value_upper : {V : Type 0} (key : ℕ) (tree : Subtree V) (here : Fork V) → HasSides tree here → here.key < key
    → value_at key (entries tree) ≡ value_at key (entries here.upper)
value_upper key tree here t h = ap (value_at key) t.is ∙ value_after key (entries here.lower) (entry_of here) (entries here.upper) t.sorted h

pub value_top : {V : Type 0} (key : ℕ) (tree : Subtree V) (here : Fork V) → HasSides tree here → here.key ≡ key
    → value_at key (entries tree) ≡ Some here.value
value_top key tree here t h = ap (value_at key) t.is ∙ value_here key (entries here.lower) (entry_of here) (entries here.upper) t.sorted h

pub left_lower : {V : Type 0} (key : ℕ) (tree new : Subtree V) (here : Fork V) → HasSides tree here → key < here.key
    → entries new ≡ without key (entries here.lower) → entries new ++ entry_of here ∷ entries here.upper ≡ without key (entries tree)
left_lower key tree new here t h n =
    ap (λ es. es ++ entry_of here ∷ entries here.upper) n
    ∙ sym (ap (without key) t.is ∙ without_before key (entries here.lower) (entry_of here) (entries here.upper) t.sorted h)

pub left_upper : {V : Type 0} (key : ℕ) (tree new : Subtree V) (here : Fork V) → HasSides tree here → here.key < key
    → entries new ≡ without key (entries here.upper) → entries here.lower ++ entry_of here ∷ entries new ≡ without key (entries tree)
left_upper key tree new here t h n =
    ap (λ es. entries here.lower ++ entry_of here ∷ es) n
    ∙ sym (ap (without key) t.is ∙ without_after key (entries here.lower) (entry_of here) (entries here.upper) t.sorted h)

pub left_top : {V : Type 0} (key : ℕ) (tree : Subtree V) (here : Fork V) → HasSides tree here → here.key ≡ key
    → entries here.lower ++ entries here.upper ≡ without key (entries tree)
left_top key tree here t h = sym (ap (without key) t.is ∙ without_here key (entries here.lower) (entry_of here) (entries here.upper) t.sorted h)

pub put_lower : {V : Type 0} (leaf : ℕ × V) (tree new : Subtree V) (here : Fork V) → HasSides tree here → leaf.0 < here.key
    → entries new ≡ placed leaf (entries here.lower) → entries new ++ entry_of here ∷ entries here.upper ≡ placed leaf (entries tree)
put_lower leaf tree new here t h n =
    ap (λ es. es ++ entry_of here ∷ entries here.upper) n
    ∙ sym (ap (placed leaf) t.is ∙ placed_before leaf (entries here.lower) (entry_of here) (entries here.upper) t.sorted h)

pub put_upper : {V : Type 0} (leaf : ℕ × V) (tree new : Subtree V) (here : Fork V) → HasSides tree here → here.key < leaf.0
    → entries new ≡ placed leaf (entries here.upper) → entries here.lower ++ entry_of here ∷ entries new ≡ placed leaf (entries tree)
put_upper leaf tree new here t h n =
    ap (λ es. entries here.lower ++ entry_of here ∷ es) n
    ∙ sym (ap (placed leaf) t.is ∙ placed_after leaf (entries here.lower) (entry_of here) (entries here.upper) t.sorted h)

pub new_sides : {V : Type 0} (key : ℕ) (tree : Subtree V) (here : Fork V) → HasSides tree here → value_at key (entries tree) ≡ None
    → (value_at key (entries here.lower) ≡ None) × (here.key ≢ key) × (value_at key (entries here.upper) ≡ None)
new_sides key tree here t n =
    new_parts key (entries here.lower) (entry_of here) (entries here.upper) (ap (value_at key) (sym t.is) ∙ n)

pub not_empty : {V : Type 0} (l : List (ℕ × V)) (e : ℕ × V) (r : List (ℕ × V)) → l ++ e ∷ r ≡ [] → ⊥
not_empty [] e r h = cc
not_empty (f ∷ l) e r h = cc

-- what was removed at the top
pub top_found : {V : Type 0} (key : ℕ) (tree : Subtree V) (here : Fork V) (new : List (ℕ × V)) (result : Option (Box (Fork V) Global)) → HasSides tree here → here.key ≡ key
    → MatchOption result (entries_in here ≡ []) (λ leaf. IsLeaf leaf.value × ((entry_of leaf.value ≡ entry_of here) × (new ≡ entries here.lower ++ entries here.upper)))
    → MatchOption result (value_at key (entries tree) ≡ None) (λ leaf. IsLeaf leaf.value × (value_at key (entries tree) ≡ Some leaf.value.value))
top_found key tree here new None t h m = absurd (not_empty (entries here.lower) (entry_of here) (entries here.upper) m)
top_found key tree here new (Some leaf) t h m = (m.0, value_top key tree here t h ∙ ap (λ e. Some e.1) (sym m.1.0))

pub top_left : {V : Type 0} (key : ℕ) (tree : Subtree V) (here : Fork V) (new : List (ℕ × V)) (result : Option (Box (Fork V) Global)) → HasSides tree here → here.key ≡ key
    → MatchOption result (entries_in here ≡ []) (λ leaf. IsLeaf leaf.value × ((entry_of leaf.value ≡ entry_of here) × (new ≡ entries here.lower ++ entries here.upper)))
    → new ≡ without key (entries tree)
top_left key tree here new None t h m = absurd (not_empty (entries here.lower) (entry_of here) (entries here.upper) m)
top_left key tree here new (Some leaf) t h m = m.1.1 ∙ left_top key tree here t h

pub from_upper : {V : Type 0} (key : ℕ) (tree : Subtree V) (here : Fork V) → HasSides tree here → here.key < key
    → from_key key (entries tree) ≡ from_key key (entries here.upper)
from_upper key tree here t h = ap (from_key key) t.is ∙ from_after key (entries here.lower) (entry_of here) (entries here.upper) t.sorted h

pub from_lower : {V : Type 0} (key : ℕ) (tree : Subtree V) (here : Fork V) → HasSides tree here → key ≤ here.key
    → from_key key (entries tree) ≡ from_key key (entries here.lower) ++ entry_of here ∷ entries here.upper
from_lower key tree here t h = ap (from_key key) t.is ∙ from_before key (entries here.lower) (entry_of here) (entries here.upper) h

-- what was found first in the lower part is first in all
pub found_first : {V A : Type 0} (entry : A → ℕ × V) (result : Option A) (lower all : List (ℕ × V)) (e : ℕ × V) (upper : List (ℕ × V))
    → all ≡ lower ++ e ∷ upper → MatchOption result (lower ≡ []) (λ a. HasFirst (entry a) lower) → (result ≡ None → ⊥)
    → MatchOption result (all ≡ []) (λ a. HasFirst (entry a) all)
found_first entry None lower all e upper is m some = absurd (some refl)
found_first entry (Some a) lower all e upper is m some = (m.0 ++ e ∷ upper, is ∙ ap (λ es. es ++ e ∷ upper) m.1)
