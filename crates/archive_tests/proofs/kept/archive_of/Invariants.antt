use Rattle.std.proofs.Common.{◌≤◌}
use Rattle.std.specs.Prelude.{All}
use Rattle.archive_keep.specs.declared.event_ref.KeptEvent.{KeptEvent}
use Rattle.archive_tests.proofs.kept.archive_of.Given as goal

-- the events so far were accepted by the number and the moment of the last one
abbrev pub invariant-loop-event : goal.invariant-loop-event
invariant-loop-event l = (goal.iterator-loop-event).can_next l.event-iterator × (goal.iterator-loop-event).is_finite l.event-iterator
    × All (λ (o : KeptEvent). (o.number ≤ l.number) × (o.accepted ≤ l.moment)) l.archive.events
