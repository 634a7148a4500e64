use Rattle.std.proofs.Common.{◌≡◌, map, take}
use Rattle.pattern_meaning.specs.PatternView.{test_of}
use Rattle.rule_automaton.specs.AnchorView.{shared_tests}
use Rattle.rule_automaton.proofs.copying.copies.Given as goal

abbrev pub invariant-loop-test : goal.invariant-loop-test
invariant-loop-test l = shared_tests l.copies.items ≡ map test_of (take l.test-index l.tests)
