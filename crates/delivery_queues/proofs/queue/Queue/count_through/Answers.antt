use Rattle.std.proofs.Common.{Bool, length, ap, ◌∙◌, rules}
use Rattle.std.specs.Prelude.{nat_le}
use borrow.Author.Tests.{tests}
use Rattle.std.proofs.lemmas.Iterator.Consumers.{YieldsList-from_rest, count_from_yields_List}
use Rattle.std.proofs.lemmas.Iterator.Search.{YieldsList-from_take_while}
use Rattle.delivery_queues.specs.declared.stored.StoredMessage.{StoredMessage}
use Rattle.delivery_queues.specs.Queues.{Queue, messages_through}
use Rattle.delivery_queues.proofs.MessageLemmas.{through_front}
use Rattle.delivery_queues.proofs.queue.Queue.count_through.Goals as goal

pub returns : goal.returns
returns c =
    let through = c.args.through in
    let test : StoredMessage → Bool = λ m. nat_le m.number through in
    let count = count_from_yields_List c.take_while.result c.count.result c.count.ensures.ran
    (YieldsList-from_take_while _ test (YieldsList-from_rest c.self.inside.messages (cc)) c.take_while.ensures.closure c.take_while.ensures.done
    (λ x b q k. search (rules, tests))) in
    count
    ∙ through_front through c.self.inside.messages c.self.invariant.rising
    ∙ ap (λ (m : Queue). length (messages_through through m.messages)) c.self.view_is
