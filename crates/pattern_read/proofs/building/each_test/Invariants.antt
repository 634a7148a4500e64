use Rattle.std.proofs.Common.{map}
use Rattle.std.specs.Vec.Iter.{into_iter_items}
use Rattle.json_text.specs.View.{trees_of}
use Rattle.pattern_meaning.specs.PatternView.{test_of}
use Rattle.pattern_read.specs.Test.{IsTest}
use Rattle.pattern_read.specs.Check.{test_checks}
use Rattle.pattern_read.proofs.LoopLemmas.{Behind}
use Rattle.pattern_read.proofs.building.each_test.Given as goal

abbrev pub invariant-loop-item : goal.invariant-loop-item
invariant-loop-item l =
    (goal.iterator-loop-item).can_next l.item-iterator ×
    (goal.iterator-loop-item).is_finite l.item-iterator ×
    Behind IsTest test_checks (trees_of l.fn.items.items) (trees_of (into_iter_items l.item-iterator)) (map test_of l.tests.items)
