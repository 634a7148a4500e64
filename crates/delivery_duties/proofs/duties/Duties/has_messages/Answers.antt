use Rattle.std.proofs.Common.{◌==◌, not, length, Some, None, sym, ap, ◌∙◌}
use Rattle.delivery_queues.specs.Queues.{messages_of}
use Rattle.delivery_duties.specs.Duties.{Duties}
use Rattle.delivery_queues.proofs.QueueLemmas.{messages_named, some_left}
use Rattle.delivery_duties.proofs.duties.Duties.has_messages.Goals as goal

pub returns-in-Some : goal.returns-in-Some
returns-in-Some c =
    let queue = c.args.queue.now in
    let all = sym (ap (λ (s : Duties). messages_of queue s.queues) c.self.view_is)
    ∙ messages_named queue c.self.inside.queues (Some c.in-Some.found.now) c.in-Some.ensures in
    some_left c.is_empty.result c.in-Some.found.now.messages (messages_of queue c.args.self.now.queues) all c.is_empty.ensures

pub returns-in-None : goal.returns-in-None
returns-in-None c =
    let queue = c.args.queue.now in
    let all = sym (ap (λ (s : Duties). messages_of queue s.queues) c.self.view_is) ∙ messages_named queue c.self.inside.queues None c.in-None.ensures in
    ap (λ l. not (length l == 0)) (sym all)
