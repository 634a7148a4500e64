use Rattle.std.proofs.Common.{rules, ◌≡◌, false, inr, refl}
use Rattle.event_shape.proofs.NameLemmas.{queue_named}
use Rattle.delivery_queues.specs.Queues.{has_queue}
use Rattle.router_core.proofs.tables.Tables.recorded.Goals as goal

pub returns-else-has_queue : goal.returns-else-has_queue
returns-else-has_queue c =
    let queue = c.in-Some.queue.now in
    let absent : has_queue queue c.args.self.now.duties.queues ≡ false = search rules in
    inr (c.in-Accepted.is, refl, (queue, (queue_named c.args.endpoint.now queue).0 c.in-Some.ensures, absent))
