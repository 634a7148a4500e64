use Rattle.std.proofs.Common.{◌≡◌, length}
use Rattle.std.specs.List.{list_any}
use Rattle.rule_table.specs.RuleSet.{is_used_by_rule}
use Rattle.rule_table.proofs.bus.Bus.uses_queue.Given as goal

-- the rules that are left name the queue if and only if some rule does
abbrev pub invariant-loop-rule : goal.invariant-loop-rule
invariant-loop-rule l = list_any (is_used_by_rule l.queue) l.rules ≡ list_any (is_used_by_rule l.queue) l.self.rules

abbrev pub decreases-loop-rule : goal.decreases-loop-rule
decreases-loop-rule l = length l.rules
