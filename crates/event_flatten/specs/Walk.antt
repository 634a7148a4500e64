-- For private clauses alone: the leaves in the order of the text, as one walk of the value finds them.
use Rattle.std.specs.Prelude.{◌≡◌, ℕ, Bool, true, false, List, [], ◌∷◌, ◌++◌, map, drop, flat_map, if◌then◌else◌}
use Rattle.std.specs.List.{AllPairs}
use Rattle.std.specs.Str.{bytes_eq}
use Rattle.std.specs.Cmp.Lexicographic.{slice_cmp}
use Rattle.std.specs.Ordering.{nat_cmp, is_lt}
use Rattle.std.specs.declared.cmp.Ordering.TheVariants.{Less}
use Rattle.json_text.specs.Tree.{Tree, null, truth, number, text, list, object, Items, no_items, item, Members, no_members, member}
use Rattle.event_flatten.specs.Path.{path_cmp}
use Rattle.event_flatten.specs.Leaves.{at_end}

-- what is wanted of a value: numbers of paths, each with the keys of its path that are left
abbrev pub Wants : Type 0
Wants = List (ℕ × List (List ℕ))

-- what is left of paths after their first keys
abbrev pub rests : ℕ → List (List (List ℕ)) → List (List (List ℕ))
rests depth paths = map (drop depth) paths

-- what is left of each path comes before what is left of all later ones
abbrev pub AscendsFrom : ℕ → List (List (List ℕ)) → Type 0
AscendsFrom depth paths = AllPairs (λ path later. path_cmp (drop depth path) (drop depth later) ≡ Less) paths

-- what is wanted of a member with the key
abbrev pub after : List ℕ → ℕ → List (List ℕ) → Wants
after key n [] = []
after key n (k ∷ path) = if bytes_eq k key then (n, path) ∷ [] else []

abbrev pub below : List ℕ → Wants → Wants
below key ws = flat_map (λ w. after key w.0 w.1) ws

-- a scalar is a leaf for each path without further keys
abbrev pub ends : Tree → Wants → List (ℕ × Tree)
ends t ws = flat_map (λ w. map (λ leaf. (w.0, leaf)) (at_end w.1 t)) ws

-- the leaves that are wanted, in the order of the text
abbrev mutual
  pub found_in : Wants → Tree → List (ℕ × Tree)
  found_in ws null = ends null ws
  found_in ws (truth b) = ends (truth b) ws
  found_in ws (number spelling) = ends (number spelling) ws
  found_in ws (text t) = ends (text t) ws
  found_in ws (list items) = found_in_items ws items
  found_in ws (object inside) = found_in_members ws inside

  pub found_in_items : Wants → Items → List (ℕ × Tree)
  found_in_items ws no_items = []
  found_in_items ws (item t items) = found_in ws t ++ found_in_items ws items

  pub found_in_members : Wants → Members → List (ℕ × Tree)
  found_in_members ws no_members = []
  found_in_members ws (member k t others) = found_in (below k ws) t ++ found_in_members ws others

-- the keys that are left are none, or the first of them is less than the key
abbrev pub is_before : List ℕ → List (List ℕ) → Bool
is_before key [] = true
is_before key (k ∷ path) = is_lt (slice_cmp nat_cmp k key)

-- the first of the keys that are left is the key
abbrev pub begins : List ℕ → List (List ℕ) → Bool
begins key [] = false
begins key (k ∷ path) = bytes_eq k key
