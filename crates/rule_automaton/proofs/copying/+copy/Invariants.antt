use Rattle.std.proofs.Common.{◌≡◌, map, take}
use Rattle.pattern_meaning.specs.PatternView.{test_of}
use Rattle.rule_automaton.proofs.copying.+copy.Given as goal

-- the copies so far are those of the tests so far
abbrev pub invariant-copy_tests-loop-test : goal.invariant-copy_tests-loop-test
invariant-copy_tests-loop-test l = map test_of l.copies.items ≡ map test_of (take l.test-index l.tests)
