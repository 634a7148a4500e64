use Rattle.std.proofs.Common.{false, ap, ◌∙◌}
use Rattle.delivery_duties.specs.declared.duty.DutyRow.{DutyRow}
use Rattle.delivery_duties.proofs.OrderLemmas.{inserted_as, not_there}
use Rattle.delivery_duties.proofs.schedule.Schedule.insert.Goals as goal

pub insert-requires : goal.insert-requires
insert-requires c = record {
  new_key = not_there c.args.node c.due-due.result c.number-number.result c.due_key.result c.self.invariant c.self.view_is
      (c.number-number.ensures ∙ ap (λ (o : DutyRow). o.number) c.value.ensures) c.requires.small c.requires.new_number c.due_key.ensures;
}

pub invariant_of-self : goal.invariant_of-self
invariant_of-self c = (inserted_as c.args.node c.mark.new.self c.due-due.result c.number-number.result c.due_key.result c.self.invariant c.self.view_is
    (c.mark.ensures ∙ ap (λ (o : DutyRow). record o { claimed = false }) c.value_mut.ensures.value)
    (c.due-due.ensures ∙ ap (λ (o : DutyRow). o.due) c.value-2.ensures) c.due-due.type_inv
    (c.number-number.ensures ∙ ap (λ (o : DutyRow). o.number) c.value.ensures) c.requires.small c.requires.new_number c.due_key.ensures c.insert.ensures).0

pub returns : goal.returns
returns c = (inserted_as c.args.node c.mark.new.self c.due-due.result c.number-number.result c.due_key.result c.self.invariant c.self.view_is
    (c.mark.ensures ∙ ap (λ (o : DutyRow). record o { claimed = false }) c.value_mut.ensures.value)
    (c.due-due.ensures ∙ ap (λ (o : DutyRow). o.due) c.value-2.ensures) c.due-due.type_inv
    (c.number-number.ensures ∙ ap (λ (o : DutyRow). o.number) c.value.ensures) c.requires.small c.requires.new_number c.due_key.ensures c.insert.ensures).1
