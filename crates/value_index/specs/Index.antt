-- An index as contracts see it.
use Rattle.std.specs.Prelude.{ℕ, List, map}
use Rattle.std.specs.Arc.{arc_value}
use Rattle.std.specs.declared.alloc.Global.{Global}
use Rattle.std.specs.declared.sync.Arc.{Arc}
use Rattle.pattern_meaning.specs.PatternView.{test_of}
use Rattle.pattern_meaning.specs.declared.pattern.LeafTest.{LeafTest}
use Rattle.value_index.specs.declared.index.PathIndex.{PathIndex}
use Rattle.value_index.specs.Hits.{Entry}
use Rattle.value_index.specs.Rows.{entry_in}

-- The tests of an index with their marks.
-- Shown by: event_tests test_value_index.rt: marks_are_added.
abbrev pub entries_of : PathIndex → List Entry
entries_of index = map entry_in index.rows.items

-- Tests with marks, as they are entered.
-- Shown by: event_tests test_value_index.rt: marks_are_added.
abbrev pub entered : List (Arc LeafTest Global × ℕ) → List Entry
entered tests = map (λ e. (test_of (arc_value e.0), e.1)) tests
