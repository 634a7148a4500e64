use Rattle.std.proofs.Common.{◌≡◌}
use Rattle.router_calls.specs.Accepted.{archives_kept}
use Rattle.router_calls.proofs.put_events.names_there.Given as goal

-- the names so far
abbrev pub invariant-loop-archive : goal.invariant-loop-archive
invariant-loop-archive l =
    (goal.iterator-loop-archive).can_next l.archive-iterator ×
    (goal.iterator-loop-archive).is_finite l.archive-iterator ×
    (l.names.items ≡ archives_kept l.set l.yielded)
