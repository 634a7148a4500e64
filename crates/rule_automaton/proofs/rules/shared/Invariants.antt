use Rattle.std.proofs.Common.{take}
use Rattle.rule_automaton.specs.Table.{AreSame}
use Rattle.rule_automaton.proofs.rules.shared.Given as goal

abbrev pub invariant-loop-rule : goal.invariant-loop-rule
invariant-loop-rule l = AreSame (take l.rule-index l.rules) l.copies.items
