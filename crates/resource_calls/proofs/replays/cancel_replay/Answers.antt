use Rattle.std.proofs.Common.{◌≡◌, ℕ, List, Some, true, ap, sym, ◌∙◌}
use Rattle.replay_run.specs.Replays.{found, is_running}
use Rattle.resource_calls.proofs.ReplayLemmas.{cancellable}
use Rattle.resource_calls.proofs.replays.cancel_replay.Goals as goal

pub cancellation-requires : goal.cancellation-requires
cancellation-requires c =
    let t = c.args.tables.now in
    let name = c.args.name.now in
    let row = c.in-Some.row.now in
    let there : found name t.replays ≡ Some row = sym (ap (found name) c.replays.ensures)
    ∙ sym (ap (λ (n : List ℕ). found n c.replays.result.now) c.as_str.ensures) ∙ c.in-Some.ensures in
    let runs : is_running row ≡ true = sym c.is_running.ensures ∙ c.if-is_running.true in
    record { running = (row, cancellable t name row there runs) }
