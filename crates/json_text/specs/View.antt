-- What contracts see of a `Json`: its tree.
use Rattle.std.specs.Prelude.{ℕ, List, map}
use Rattle.json_text.specs.Tree.{Tree, null, truth, number, text, list, object, items_of, members_of}
use Rattle.json_text.specs.declared.value.Json.{Json, fold-Json}
use Rattle.json_text.specs.declared.value.Json.TheOpen.{Json-F}

-- one level, with each value inside already seen as its tree
abbrev pub view_step : Json-F Tree → Tree
view_step Json-F.Null = null
view_step (Json-F.Truth b) = truth b
view_step (Json-F.Num spelling) = number spelling
view_step (Json-F.Str t) = text t
view_step (Json-F.List v) = list (items_of v.items)
view_step (Json-F.Obj v) = object (members_of v.items)

-- The `Tree` of a `Json`. Contracts see a `Json` by its `Tree`.
-- Shown by: text_tests test_json_text.rt: values_are_written_compactly.
abbrev pub tree_of : Json → Tree
tree_of = fold-Json Tree view_step

-- The trees of a list of `Json`.
-- Shown by: as tree_of.
abbrev pub trees_of : List Json → List Tree
trees_of = map tree_of

-- The keys of members with the trees of their values.
-- Shown by: as tree_of.
abbrev pub pairs_of : List (List ℕ × Json) → List (List ℕ × Tree)
pairs_of = map (λ m. (m.0, tree_of m.1))
