use Rattle.std.proofs.Common.{◌≡◌, map, take}
use Rattle.rule_automaton.specs.RuleView.{rule_in}
use Rattle.rule_automaton.proofs.rules.rules_with.Given as goal

abbrev pub invariant-loop-number : goal.invariant-loop-number
invariant-loop-number l = map rule_in l.rules.items ≡ take l.number-index l.patterns
