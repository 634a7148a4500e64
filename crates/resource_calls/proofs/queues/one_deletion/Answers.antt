use Rattle.std.proofs.Common.{sym, subst}
use Rattle.router_core.specs.Admitted.{IsDeletionAdmitted}
use Rattle.router_requests.specs.declared.batch.Entry.TheVariants.{MessagesDeleted}
use Rattle.router_core.specs.declared.ready.Part.TheVariants.{Nothing}
use Rattle.resource_calls.proofs.DecidedLemmas.{one_written}
use Rattle.resource_calls.proofs.QueueLemmas.{queue_there}
use Rattle.resource_calls.proofs.queues.one_deletion.Goals as goal

pub returns-clause-made : goal.returns-clause-made
returns-clause-made c =
    let t = c.args.tables.now in
    let through = c.args.through in
    one_written c.writes.result t c.args.moment (MessagesDeleted c.in_ok-queue.queue through) Nothing c.writes.ensures.entry c.writes.ensures.part
    (subst (λ q. IsDeletionAdmitted t q through) (sym c.in_ok-queue.ensures) (record {
      there = queue_there c.args.queue.now through t.duties.queues c.requires.some;
      bounded = c.requires.through;
      some = c.requires.some;
    })) tt tt
