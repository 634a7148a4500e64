-- The code's leaves as contracts see them.
use Rattle.std.specs.Prelude.{◌≡◌, ◌<◌, ℕ, List, length, slice_index_or}
use Rattle.json_text.specs.Tree.{Tree}
use Rattle.json_text.specs.View.{tree_of}
use Rattle.event_flatten.specs.declared.leaf.Leaf.{Leaf}

-- The number of a leaf's path, and its value.
-- Shown by: event_tests test_event_flatten.rt: leaves_are_found.
abbrev pub leaf_of : Leaf → ℕ × Tree
leaf_of leaf = (leaf.number, tree_of leaf.value.now)

-- the leaves are numbered in their order
abbrev pub IsInOrder : List Leaf → Type 0
IsInOrder leaves = (k : ℕ) (d : Leaf) → k < length leaves → (slice_index_or leaves k d).order ≡ k
