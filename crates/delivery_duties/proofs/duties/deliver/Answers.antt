use Rattle.std.proofs.Common.{None, ap, ◌∙◌}
use Rattle.delivery_duties.specs.declared.duty.DutyRow.{DutyRow}
use Rattle.delivery_queues.specs.Queues.{has_arn, sent_to}
use Rattle.delivery_duties.proofs.duties.deliver.Goals as goal

pub returns : goal.returns
returns c =
    let owed : DutyRow = c.args.owed in
    c.send.ensures (has_arn c.endpoint.result.now) (record { number = 0; body = owed.duty.text; dead = None }) c.place_of_arn-place.ensures
    c.into_letter.ensures
    ∙ ap (λ arn. sent_to arn owed.duty.text None c.args.queues.now)
    (c.endpoint.ensures ∙ ap (λ (o : DutyRow). o.duty.target.endpoint) c.row.ensures)
