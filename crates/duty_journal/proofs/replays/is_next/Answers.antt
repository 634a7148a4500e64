use Rattle.std.proofs.Common.{ap, sym, ◌∙◌}
use Rattle.replay_run.specs.Replays.{found}
use Rattle.duty_journal.proofs.ReplayLemmas.{next_here}
use Rattle.duty_journal.proofs.replays.is_next.Goals as goal

pub returns-in-Some-next : goal.returns-in-Some-next
returns-in-Some-next c =
    let t = c.args.tables.now in
    let s = c.args.step.now in
    let there = ap (λ n. found n t.replays) (sym c.as_str.ensures) ∙ ap (found c.as_str.result.now) (sym c.replays.ensures) ∙ c.in-Some.ensures in
    next_here t s.name s.event c.in-Some.row.now c.in-Some-next.event.now c.number.result there c.in-Some-next.ensures.next c.in-Some-next.ensures.running
    c.number.ensures
