use Rattle.std.proofs.Common.{ap, sym, ◌∙◌}
use Rattle.replay_run.specs.Replays.{found}
use Rattle.duty_journal.proofs.ReplayLemmas.{cancel_here}
use Rattle.duty_journal.proofs.replays.admit_cancellation.Goals as goal

pub returns-then-is_running-clause-ok : goal.returns-then-is_running-clause-ok
returns-then-is_running-clause-ok c =
    let t = c.args.tables.now in
    let there = ap (λ n. found n t.replays) (sym c.as_str.ensures) ∙ ap (found c.as_str.result.now) (sym c.replays.ensures) ∙ c.in-Some.ensures in
    cancel_here t c.args.name.now c.in-Some.row.now there (sym c.is_running.ensures ∙ c.if-is_running.true)
