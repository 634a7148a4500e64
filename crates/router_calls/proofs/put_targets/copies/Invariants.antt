use Rattle.std.proofs.Common.{◌≡◌, map, take}
use Rattle.rule_table.specs.Target.{target_of}
use Rattle.router_calls.proofs.put_targets.copies.Given as goal

-- the copies so far
abbrev pub invariant-loop-target : goal.invariant-loop-target
invariant-loop-target l = l.others.items ≡ map target_of (take l.target-index l.targets)
