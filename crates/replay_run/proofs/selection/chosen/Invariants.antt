use Rattle.std.proofs.Common.{◌≡◌, map}
use Rattle.std.specs.Prelude.{filter}
use Rattle.replay_run.specs.Selection.{is_in_range}
use Rattle.replay_run.proofs.selection.chosen.Given as goal

-- the events so far that are in the range
abbrev pub invariant-loop-event : goal.invariant-loop-event
invariant-loop-event l = l.events.items ≡ filter (is_in_range l.range) (map (λ b. b.now) l.yielded)
