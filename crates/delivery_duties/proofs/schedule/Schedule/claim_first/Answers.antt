use Rattle.std.proofs.Common.{◌≤◌, sym, subst}
use Rattle.delivery_duties.proofs.schedule.Schedule.claim_first.Goals as goal

pub returns-clause-some : goal.returns-clause-some
returns-clause-some c =
    let (first, due) = c.in_ok-due.ensures in
    ((first, subst (λ d. d ≤ c.args.moment) (sym due) c.if-moment-due.false), c.claim_due.ensures)
