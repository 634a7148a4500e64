use Rattle.std.proofs.Common.{◌≡◌, sym, subst}
use Rattle.delivery_duties.specs.declared.duty.DutyRow.{DutyRow}
use Rattle.delivery_duties.specs.Order.{IsEarliest, NoneFree}
use Rattle.delivery_duties.proofs.OrderLemmas.{earliest, none_free}
use Rattle.delivery_duties.proofs.schedule.Schedule.first.Goals as goal

pub returns-in-Some : goal.returns-in-Some
returns-in-Some c =
    let row : DutyRow = c.in-Some.owed.now in
    let found = c.in-Some.ensures.found in
    let here = subst (λ rows. (e : IsEarliest rows row.number) × (e.row.due ≡ row.due)) c.self.view_is
    (earliest c.in-Some.field-0-0 row found.0 c.self.invariant found.1) in
    subst (λ n. (e : IsEarliest c.args.self.now n) × (e.row.due ≡ c.due.result)) (sym c.number.ensures)
    (subst (λ d. (e : IsEarliest c.args.self.now row.number) × (e.row.due ≡ d)) (sym c.due.ensures) here)

pub returns-in-None : goal.returns-in-None
returns-in-None c = subst NoneFree c.self.view_is (none_free c.self.invariant c.in-None.ensures.found)
