use Rattle.std.proofs.Common.{◌≡◌, length}
use Rattle.std.specs.List.{list_any}
use Rattle.rule_table.specs.RuleSet.{is_used_by_bus}
use Rattle.rule_table.proofs.rule_set.RuleSet.uses_queue.Given as goal

-- the buses that are left name the queue if and only if some bus does
abbrev pub invariant-loop-bus : goal.invariant-loop-bus
invariant-loop-bus l = list_any (is_used_by_bus l.queue) l.buses ≡ list_any (is_used_by_bus l.queue) l.self.buses

abbrev pub decreases-loop-bus : goal.decreases-loop-bus
decreases-loop-bus l = length l.buses
