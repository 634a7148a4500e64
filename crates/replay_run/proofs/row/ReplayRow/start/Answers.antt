use Rattle.std.proofs.Common.{None, ap, ◌∙◌}
use Rattle.replay_run.specs.declared.row.ReplayRow.{ReplayRow}
use Rattle.replay_run.specs.Replay.{Replay}
use Rattle.replay_run.specs.Replays.{changed_at}
use Rattle.replay_run.proofs.row.ReplayRow.start.Goals as goal

pub returns : goal.returns
returns c =
    let row_with : Replay → ReplayRow = λ replay. record { number = c.args.number; settings = c.args.settings; replay = replay; ended_at = None } in
    c.note_end.ensures ∙ ap (λ (replay : Replay). changed_at c.args.settings.started_at (row_with replay)) c.in_ok-replay.ensures
