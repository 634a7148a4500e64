use Rattle.std.proofs.Common.{◌≡◌, Some, sym, ap, subst, ◌∙◌}
use Rattle.delivery_duties.specs.declared.duty.DutyRow.{DutyRow}
use Rattle.delivery_queues.specs.Queues.{has_arn}
use Rattle.delivery_duties.specs.Retry.{dead_letter_queue, failed_fate}
use Rattle.delivery_duties.specs.Duties.{dead_letter_of, dead_lettered, has_dead_letter_queue}
use Rattle.delivery_duties.proofs.DeadLemmas.{dead_letter_found}
use Rattle.delivery_duties.proofs.duties.fail.Goals as goal

pub returns-in-Some-clause-fate : goal.returns-in-Some-clause-fate
returns-in-Some-clause-fate c =
    let (arn, named, first) = c.in-Some.ensures in
    let found = subst (λ (o : DutyRow). dead_letter_queue o.duty.target (has_dead_letter_queue o.duty.target c.args.queues.now) ≡ Some arn) c.row.ensures
    (dead_letter_found c.row.result.now.duty.target arn c.args.queues.now c.in-Some.at named first) in
    sym (ap failed_fate found)

pub returns-in-Some-clause-queues : goal.returns-in-Some-clause-queues
returns-in-Some-clause-queues c =
    let owed : DutyRow = c.args.owed in
    let (arn, named, first) = c.in-Some.ensures in
    let found = subst (λ (o : DutyRow). dead_letter_queue o.duty.target (has_dead_letter_queue o.duty.target c.args.queues.now) ≡ Some arn) c.row.ensures
    (dead_letter_found c.row.result.now.duty.target arn c.args.queues.now c.in-Some.at named first) in
    c.send.ensures (has_arn arn) (record { number = 0; body = owed.duty.text; dead = dead_letter_of owed.duty.target (Some c.args.failure) }) first
    c.into_letter.ensures
    ∙ ap (λ q. dead_lettered q c.args.failure owed c.args.queues.now) (sym found)
