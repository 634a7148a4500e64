use Rattle.std.proofs.Common.{Some, None, length, sym, ap, ◌∙◌}
use Rattle.delivery_queues.specs.Queues.{messages_of, messages_through}
use Rattle.delivery_duties.specs.Duties.{Duties}
use Rattle.delivery_queues.proofs.QueueLemmas.{messages_named}
use Rattle.delivery_duties.proofs.duties.Duties.count_through.Goals as goal

pub returns-in-Some : goal.returns-in-Some
returns-in-Some c =
    let queue = c.args.queue.now in
    let all = sym (ap (λ (s : Duties). messages_of queue s.queues) c.self.view_is)
    ∙ messages_named queue c.self.inside.queues (Some c.in-Some.found.now) c.in-Some.ensures in
    c.count_through.ensures ∙ sym (ap (λ ms. length (messages_through c.args.through ms)) all)

pub returns-in-None : goal.returns-in-None
returns-in-None c =
    let queue = c.args.queue.now in
    let none = sym (ap (λ (s : Duties). messages_of queue s.queues) c.self.view_is) ∙ messages_named queue c.self.inside.queues None c.in-None.ensures in
    sym (ap (λ ms. length (messages_through c.args.through ms)) none)
