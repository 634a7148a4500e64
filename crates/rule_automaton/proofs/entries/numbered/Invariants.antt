use Rattle.std.proofs.Common.{◌≡◌, map, take}
use Rattle.value_index.specs.Index.{entered}
use Rattle.rule_automaton.specs.AnchorView.{shared_tests}
use Rattle.rule_automaton.proofs.entries.numbered.Given as goal

abbrev pub invariant-loop-test : goal.invariant-loop-test
invariant-loop-test l = entered l.rows.items ≡ map (λ test. (test, l.number)) (shared_tests (take l.test-index l.tests))
