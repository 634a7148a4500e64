use Rattle.std.proofs.Common.{◌≡◌, false, Some, sym, subst}
use Rattle.key_tree.specs.Entries.{value_at}
use Rattle.delivery_duties.specs.declared.duty.DutyRow.{DutyRow}
use Rattle.delivery_duties.proofs.OrderLemmas.{free_found}
use Rattle.delivery_duties.proofs.schedule.Schedule.get_free.Goals as goal

pub unreachable-requires : goal.unreachable-requires
unreachable-requires c =
    let (row, there, _, _, _) = free_found c.in_ok-due.due c.args.number c.due_key.result c.self.invariant c.self.view_is c.in_ok-due.ensures c.due_key.ensures in
    let none = c.in-None.ensures in
    absurd (cc)

pub returns : goal.returns
returns c =
    let (row, there, _, in_all, free) = free_found c.in_ok-due.due c.args.number c.due_key.result c.self.invariant c.self.view_is c.in_ok-due.ensures c.due_key.ensures in
    let found = c.in-Some.ensures in
    let same : row ≡ c.in-Some.owed.now = cc in
    subst (λ (o : DutyRow). (value_at c.args.number c.args.self.now ≡ Some o) × (o.claimed ≡ false)) (sym c.row.ensures)
    (subst (λ (o : DutyRow). (value_at c.args.number c.args.self.now ≡ Some o) × (o.claimed ≡ false)) same (in_all, free))
