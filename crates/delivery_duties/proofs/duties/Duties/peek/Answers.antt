use Rattle.std.proofs.Common.{◌≡◌, Some, None, sym, ap, ◌∙◌, subst, map, take}
use Rattle.std.specs.Prelude.{IfOk}
use Rattle.std.proofs.Math.Seq.{take-nil}
use Rattle.delivery_queues.specs.DeadLetter.{shown}
use Rattle.delivery_queues.specs.Queues.{messages_of}
use Rattle.delivery_duties.specs.Duties.{Duties}
use Rattle.delivery_queues.proofs.QueueLemmas.{messages_named}
use Rattle.delivery_duties.proofs.duties.Duties.peek.Goals as goal

pub returns-in-Some : goal.returns-in-Some
returns-in-Some c =
    let queue = c.args.queue.now in
    let all = sym (ap (λ (s : Duties). messages_of queue s.queues) c.self.view_is)
    ∙ messages_named queue c.self.inside.queues (Some c.in-Some.found.now) c.in-Some.ensures in
    subst (λ ms. IfOk c.peek.result (λ r. r.items ≡ map shown (take c.args.limit ms))) (sym all) c.peek.ensures

pub returns-in-None : goal.returns-in-None
returns-in-None c =
    let queue = c.args.queue.now in
    let none = sym (ap (λ (s : Duties). messages_of queue s.queues) c.self.view_is) ∙ messages_named queue c.self.inside.queues None c.in-None.ensures in
    c.new.ensures.items ∙ sym (ap (λ ms. map shown (take c.args.limit ms)) none ∙ ap (map shown) (take-nil c.args.limit))
