use Rattle.std.proofs.Common.{◌↔◌, map, drop}
use Rattle.json_text.specs.View.{tree_of}
use Rattle.pattern_meaning.specs.Pattern.{tests_of}
use Rattle.pattern_meaning.specs.Holds.{IsMetBySome}
use Rattle.pattern_meaning.specs.PatternView.{test_of}
use Rattle.value_index.proofs.leaf.+met.Given as goal

-- what is left answers what all answer
abbrev pub invariant-is_met_by_some-loop-test : goal.invariant-is_met_by_some-loop-test
invariant-is_met_by_some-loop-test l =
    IsMetBySome (tests_of (map test_of (drop l.test-index l.tests))) (tree_of l.leaf)
    ↔ IsMetBySome (tests_of (map test_of l.tests)) (tree_of l.leaf)
