use Rattle.std.proofs.Common.{◌≤◌, All}
use Rattle.archive_keep.specs.declared.event_ref.KeptEvent.{KeptEvent}
use Rattle.leaf_bench.proofs.archives.measure.Given as goal

-- the events so far were accepted by the number and the moment of the last one
abbrev pub invariant-loop-day : goal.invariant-loop-day
invariant-loop-day g l = All (λ (o : KeptEvent). (o.number ≤ l.line.number) × (o.accepted ≤ l.line.moment)) l.line.archive.events
