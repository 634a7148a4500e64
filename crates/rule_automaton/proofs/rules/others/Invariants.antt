use Rattle.std.proofs.Common.{take, filter}
use Rattle.std.specs.Prelude.{◌==◌, not}
use Rattle.rule_automaton.specs.Table.{AreSame}
use Rattle.rule_automaton.specs.declared.rule.Rule.{Rule}
use Rattle.rule_automaton.proofs.rules.others.Given as goal

abbrev pub invariant-loop-rule : goal.invariant-loop-rule
invariant-loop-rule l = AreSame (filter (λ (rule : Rule). not (rule.number == l.number)) (take l.rule-index l.rules)) l.copies.items
