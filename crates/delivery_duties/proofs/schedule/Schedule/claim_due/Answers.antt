use Rattle.std.proofs.Common.{true, ap, ◌∙◌}
use Rattle.delivery_duties.specs.declared.duty.DutyRow.{DutyRow}
use Rattle.delivery_duties.proofs.OrderLemmas.{claimed_as, free_found, out_free}
use Rattle.delivery_duties.proofs.schedule.Schedule.claim_due.Goals as goal

pub insert-requires : goal.insert-requires
insert-requires c = record {
  new_key = out_free c.args.due c.args.number c.due_key.result c.from.result c.self.invariant c.self.view_is c.requires c.due_key.ensures c.from.ensures;
}

pub unreachable-requires : goal.unreachable-requires
unreachable-requires c =
    let (row, there, _, _, _) = free_found c.args.due c.args.number c.due_key.result c.self.invariant c.self.view_is c.requires c.due_key.ensures in
    let none = c.in-None.ensures.found in
    absurd (cc)

pub invariant_of-self : goal.invariant_of-self
invariant_of-self c = (claimed_as c.in-Some.node c.mark.new.self c.args.due c.args.number c.due_key.result c.from.result c.self.invariant c.self.view_is
    c.requires c.due_key.ensures c.in-Some.ensures.found (c.mark.ensures ∙ ap (λ (o : DutyRow). record o { claimed = true }) c.value_mut.ensures.value)
    c.from.ensures c.in-Some.ensures.left c.insert.ensures).0

pub returns : goal.returns
returns c = (claimed_as c.in-Some.node c.mark.new.self c.args.due c.args.number c.due_key.result c.from.result c.self.invariant c.self.view_is
    c.requires c.due_key.ensures c.in-Some.ensures.found (c.mark.ensures ∙ ap (λ (o : DutyRow). record o { claimed = true }) c.value_mut.ensures.value)
    c.from.ensures c.in-Some.ensures.left c.insert.ensures).1
