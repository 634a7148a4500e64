use Rattle.std.proofs.Common.{ap, ◌∙◌}
use Rattle.delivery_duties.specs.Duties.{Duties}
use Rattle.delivery_queues.specs.Queues.{has_queue}
use Rattle.duty_journal.proofs.AdmitLemmas.{queue_has, queue_is}
use Rattle.duty_journal.proofs.admit.has_its_queue.Goals as goal

pub returns-in-Some : goal.returns-in-Some
returns-in-Some c =
    let queues = c.args.tables.now.duties.queues in
    let name = c.in-Some.queue.now in
    let is = c.has_queue.ensures.value ∙ ap (λ (d : Duties). has_queue name d.queues) c.duties.ensures in (
      λ holds ended. queue_is c.args.endpoint.now name queues c.has_queue.result c.in-Some.ensures is holds,
      λ all. queue_has c.args.endpoint.now name queues c.has_queue.result c.in-Some.ensures is (all c.in-Accepted.is),
    )
