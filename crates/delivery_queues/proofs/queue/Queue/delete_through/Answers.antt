use Rattle.std.proofs.Common.{◌≡◌, List, length, take, drop, sym, ap, ◌∙◌, arith}
use Rattle.delivery_queues.specs.declared.stored.StoredMessage.{StoredMessage}
use Rattle.delivery_queues.specs.Queues.{Queue, messages_through, messages_after}
use Rattle.delivery_queues.proofs.MessageLemmas.{numbered_after, through_count, through_taken, after_dropped}
use Rattle.delivery_queues.proofs.queue.Queue.delete_through.Goals as goal

pub cut-left-requires : goal.cut-left-requires
cut-left-requires c =
    let count = c.count_through-count.ensures ∙ ap (λ (m : Queue). length (messages_through c.args.through m.messages)) (sym c.self.view_is) in
    omega (arith, count, through_count c.args.through c.self.inside.messages)

-- the count is that of the messages before the deletion
counted : (c : goal.After-replace) → c.count_through-count.result ≡ length (messages_through c.args.through c.self.inside.messages)
counted c = c.count_through-count.ensures ∙ ap (λ (m : Queue). length (messages_through c.args.through m.messages)) (sym c.self.view_is)

-- the messages that stay
left : (c : goal.After-replace) → c.replace.new.dest ≡ messages_after c.args.through c.self.inside.messages
left c =
    c.replace.ensures.after ∙ c.cut-left.ensures.back ∙ ap (λ n. drop n c.self.inside.messages) (counted c)
    ∙ after_dropped c.args.through c.self.inside.messages c.self.invariant.rising

pub invariant_of-self : goal.invariant_of-self
invariant_of-self c =
    numbered_after c.args.through (record { name = c.self.inside.name; sent = c.self.inside.sent; messages = c.self.inside.messages })
    c.replace.new.dest c.self.invariant (left c)

pub returns-clause-left : goal.returns-clause-left
returns-clause-left c =
    ap (λ (ms : List StoredMessage). record { name = c.self.inside.name; sent = c.self.inside.sent; messages = ms })
    (left c)
    ∙ ap (λ (m : Queue). record m { messages = messages_after c.args.through m.messages }) c.self.view_is

pub returns-clause-deleted : goal.returns-clause-deleted
returns-clause-deleted c =
    c.replace.ensures.value ∙ c.cut-left.ensures.front ∙ ap (λ n. take n c.self.inside.messages) (counted c)
    ∙ through_taken c.args.through c.self.inside.messages c.self.invariant.rising
    ∙ ap (λ (m : Queue). messages_through c.args.through m.messages) c.self.view_is
