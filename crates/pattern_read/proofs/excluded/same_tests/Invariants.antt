use Rattle.std.proofs.Common.{◌≡◌, ◌++◌, map}
use Rattle.std.specs.Vec.Iter.{into_iter_items}
use Rattle.json_text.specs.View.{trees_of}
use Rattle.pattern_meaning.specs.Pattern.{same}
use Rattle.pattern_meaning.specs.PatternView.{test_of}
use Rattle.pattern_read.proofs.excluded.same_tests.Given as goal

-- the tests so far and those of what is left are those of all
abbrev pub invariant-loop-item : goal.invariant-loop-item
invariant-loop-item l =
    (goal.iterator-loop-item).can_next l.item-iterator ×
    (goal.iterator-loop-item).is_finite l.item-iterator ×
    (map test_of l.tests.items ++ map same (trees_of (into_iter_items l.item-iterator)) ≡ map same (trees_of l.fn.items.items))
