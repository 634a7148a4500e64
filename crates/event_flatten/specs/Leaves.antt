-- The leaves of a JSON value at paths: what its views have there, over all views.
use Rattle.std.specs.Prelude.{ℕ, ◌==◌, Bool, true, false, List, [], ◌∷◌, ◌++◌, map, filter, flat_map, if◌then◌else◌}
use Rattle.std.specs.List.{enumerate_from}
use Rattle.std.specs.Str.{bytes_eq}
use Rattle.json_text.specs.Tree.{Tree, null, truth, number, text, list, object, Items, no_items, item, Members, no_members, member}

-- The value is null, a truth value, a number or a text.
-- Shown by: proofs alone.
abbrev pub is_scalar : Tree → Bool
is_scalar null = true
is_scalar (truth b) = true
is_scalar (number spelling) = true
is_scalar (text t) = true
is_scalar (list items) = false
is_scalar (object inside) = false

-- a scalar is a leaf at the path without keys, and at no other
abbrev pub at_end : List (List ℕ) → Tree → List Tree
at_end [] scalar = scalar ∷ []
at_end (key ∷ path) scalar = []

-- The scalars that a value has at a path, in the order of the text: of a list those of each item, also of a list in it; of an object those
-- of the first member with the path's first key. `{"a":[[],[[1]],{"b":2}]}` has 1 at the path `a`, and 2 at the path `a`, `b`.
-- `{"a.b":1}` has 1 at the path of the one key `a.b`.
-- Shown by: event_tests test_event_flatten.rt: leaves_are_found.
abbrev mutual
  pub leaves_at : List (List ℕ) → Tree → List Tree
  leaves_at path null = at_end path null
  leaves_at path (truth b) = at_end path (truth b)
  leaves_at path (number spelling) = at_end path (number spelling)
  leaves_at path (text t) = at_end path (text t)
  leaves_at path (list items) = leaves_of_items path items
  leaves_at path (object inside) = leaves_of_members path inside

  pub leaves_of_items : List (List ℕ) → Items → List Tree
  leaves_of_items path no_items = []
  leaves_of_items path (item t items) = leaves_at path t ++ leaves_of_items path items

  pub leaves_of_members : List (List ℕ) → Members → List Tree
  leaves_of_members path no_members = []
  leaves_of_members [] (member k t others) = []
  leaves_of_members (key ∷ path) (member k t others) =
      if bytes_eq k key then leaves_at path t else leaves_of_members (key ∷ path) others

-- the leaves at one path, each with the number of the path
abbrev pub leaves_with : Tree → ℕ × List (List ℕ) → List (ℕ × Tree)
leaves_with t path = map (λ leaf. (path.0, leaf)) (leaves_at path.1 t)

-- The leaves at paths, path after path, each with its path's number, counted from 0. At the paths `a`, `b` and `a`, `c` the value
-- `{"a":[{"c":1,"b":2},{"b":3}]}` has (0, 2), (0, 3) and (1, 1).
-- Shown by: event_tests test_event_flatten.rt: leaves_are_found.
abbrev pub leaves_of : List (List (List ℕ)) → Tree → List (ℕ × Tree)
leaves_of paths t = flat_map (leaves_with t) (enumerate_from 0 paths)

-- The leaf is one at the path with this number.
-- Shown by: event_tests test_event_flatten.rt: leaves_of_one_path_are_found.
abbrev pub has_number : ℕ → ℕ × Tree → Bool
has_number n leaf = leaf.0 == n

-- The leaves at the path with this number, in order.
-- Shown by: event_tests test_event_flatten.rt: leaves_of_one_path_are_found.
abbrev pub numbered : ℕ → List (ℕ × Tree) → List Tree
numbered n leaves = map (λ leaf. leaf.1) (filter (has_number n) leaves)
