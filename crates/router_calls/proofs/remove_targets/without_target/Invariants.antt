use Rattle.std.proofs.Common.{◌≡◌}
use Rattle.router_calls.specs.Removals.{without_target}
use Rattle.router_calls.proofs.remove_targets.without_target.Given as goal

-- the targets that stay so far
abbrev pub invariant-loop-target : goal.invariant-loop-target
invariant-loop-target l =
    (goal.iterator-loop-target).can_next l.target-iterator ×
    (goal.iterator-loop-target).is_finite l.target-iterator ×
    (l.left.items ≡ without_target l.id l.yielded)
