use Rattle.std.proofs.Common.{◌≤◌, sym, ap, ◌∙◌, subst}
use Rattle.router_core.specs.Steps.{record_of}
use Rattle.router_history.proofs.RecordLemmas.{errand_open, due_by, same_claim}
use Rattle.router_history.proofs.book.Machine.attempted.Goals as goal

pub record_outcome-outcome-requires-clause-errand : goal.record_outcome-outcome-requires-clause-errand
record_outcome-outcome-requires-clause-errand c = errand_open c.args.seat.pass c.args.self.now c.args.held c.requires.kept c.requires.holds

pub record_outcome-outcome-requires-clause-due : goal.record_outcome-outcome-requires-clause-due
record_outcome-outcome-requires-clause-due c =
    subst (λ n. c.args.held.errand.moment ≤ n) (sym c.turn_moment-moment.ensures.moment)
    (due_by c.args.seat.pass c.args.self.now c.args.held c.requires.kept c.requires.holds)

pub record_outcome-outcome-requires-clause-moment : goal.record_outcome-outcome-requires-clause-moment
record_outcome-outcome-requires-clause-moment c = c.turn_moment-moment.ensures.bound c.args.held.is_moment

pub returns-clause-claim : goal.returns-clause-claim
returns-clause-claim c = same_claim c.args.held c.record_outcome-outcome.new.errand c.record_outcome-outcome.ensures.same

pub returns-clause-recorded : goal.returns-clause-recorded
returns-clause-recorded c =
    let made = c.record_outcome-outcome.ensures.recorded in
    (made.0, made.1 ∙ ap (λ m. record_of m c.args.held.errand.claim.number c.record_outcome-outcome.result) c.turn_moment-moment.ensures.moment)
