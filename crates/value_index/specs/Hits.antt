-- Tests with marks, and the marks of those that a leaf meets.
use Rattle.std.specs.Prelude.{◌≡◌, ◌↔◌, ◌⊎◌, ℕ, Bool, false, IsTrue, List, length, slice_index_or}
use Rattle.std.specs.List.{Any}
use Rattle.json_text.specs.Tree.{Tree}
use Rattle.pattern_meaning.specs.Pattern.{Test}
use Rattle.pattern_meaning.specs.Holds.{IsMet}

-- A test and its mark.
-- Shown by: event_tests test_value_index.rt: marks_are_added.
abbrev pub Entry : Type 0
Entry = Test × ℕ

-- The leaf meets the test of the entry, and the entry has this mark.
-- Shown by: event_tests test_value_index.rt: marks_are_added.
abbrev pub Finds : Tree → ℕ → Entry → Type 0
Finds leaf mark entry = (entry.1 ≡ mark) × IsMet entry.0 leaf

-- A place is marked afterwards exactly if it was before, or the leaf meets a test with this mark. The number of places stays. Of exact `2`
-- with the mark 0 and `numeric` `<` 3 with the mark 1 the leaf 1 adds the mark 1, and the leaf 2 both.
-- Shown by: event_tests test_value_index.rt: marks_are_added.
pub record AddsMet (entries : List Entry) (leaf : Tree) (old new : List Bool) : Type 0 where
  pub same_places : length new ≡ length old
  pub marked : (place : ℕ) → IsTrue (slice_index_or new place false)
      ↔ (IsTrue (slice_index_or old place false) ⊎ Any (Finds leaf place) entries)
