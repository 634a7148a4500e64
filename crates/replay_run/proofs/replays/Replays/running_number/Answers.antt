use Rattle.std.proofs.Common.{refl, sym, ◌∙◌}
use Rattle.replay_run.specs.Replays.{found}
use Rattle.replay_run.proofs.ReplaysLemmas.{still_running, not_running}
use Rattle.replay_run.proofs.replays.Replays.running_number.Goals as goal

pub returns-then-is_running : goal.returns-then-is_running
returns-then-is_running c =
    (c.in-Some.row.now, still_running (found c.args.name.now c.args.self.now) c.in-Some.row.now c.in-Some.ensures (sym c.is_running.ensures ∙ c.if-is_running.true), refl)

pub returns-else-is_running : goal.returns-else-is_running
returns-else-is_running c =
    not_running (found c.args.name.now c.args.self.now) c.in-Some.row.now c.in-Some.ensures (sym c.is_running.ensures ∙ c.if-is_running.false)
