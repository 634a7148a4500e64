use Rattle.std.proofs.Common.{◌≤◌, take}
use Rattle.std.specs.Prelude.{All}
use Rattle.archive_keep.specs.declared.event_ref.KeptEvent.{KeptEvent}
use Rattle.replay_run.specs.Selection.{AreByTime}
use Rattle.replay_run.proofs.selection.are_by_time.Given as goal

-- the events so far are in order, and none is later than the last
abbrev pub invariant-loop-event : goal.invariant-loop-event
invariant-loop-event l = AreByTime (take l.event-index l.events) × All (λ (e : KeptEvent). e.time ≤ l.last) (take l.event-index l.events)
