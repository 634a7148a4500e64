use Rattle.std.proofs.Common.{◌∙◌, ap}
use Rattle.delivery_duties.specs.Duties.{Duties}
use Rattle.delivery_queues.specs.Queues.{has_queue}
use Rattle.delivery_duties.proofs.StepLemmas.{has_found, queue_decides}
use Rattle.delivery_duties.proofs.duties.Duties.has_queue.Goals as goal

pub returns-clause-value : goal.returns-clause-value
returns-clause-value c =
    c.is_some.ensures ∙ has_found (λ q. q.now) c.args.queue.now c.self.inside.queues c.find.result c.find.ensures
    ∙ ap (λ (s : Duties). has_queue c.args.queue.now s.queues) c.self.view_is

pub returns-clause-arn : goal.returns-clause-arn
returns-clause-arn c =
    queue_decides c.args.queue.now c.args.self.now.queues c.is_some.result
    (c.is_some.ensures ∙ has_found (λ q. q.now) c.args.queue.now c.self.inside.queues c.find.result c.find.ensures
    ∙ ap (λ (s : Duties). has_queue c.args.queue.now s.queues) c.self.view_is)
