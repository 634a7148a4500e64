use Rattle.std.proofs.Common.{◌≡◌, take}
use Rattle.rule_table.proofs.targets.pointers.Given as goal

abbrev pub invariant-loop-target : goal.invariant-loop-target
invariant-loop-target l = l.others.items ≡ take l.target-index l.targets
