use Rattle.std.proofs.Common.{map}
use Rattle.std.specs.Vec.Iter.{into_iter_items}
use Rattle.pattern_meaning.specs.PatternView.{test_of}
use Rattle.pattern_read.specs.Test.{IsTextTest}
use Rattle.pattern_read.specs.Check.{text_checks}
use Rattle.pattern_read.proofs.LoopLemmas.{Behind}
use Rattle.pattern_read.proofs.excluded.read_text_tests.Given as goal

abbrev pub invariant-loop-text : goal.invariant-loop-text
invariant-loop-text l =
    (goal.iterator-loop-text).can_next l.text-iterator ×
    (goal.iterator-loop-text).is_finite l.text-iterator ×
    Behind (IsTextTest l.kind) (text_checks l.kind) l.fn.texts.items (into_iter_items l.text-iterator) (map test_of l.tests.items)
