use Rattle.delivery_queues.proofs.MessageLemmas.{numbered_next}
use Rattle.delivery_queues.proofs.queue.Queue.take_in.Goals as goal

pub invariant_of-self : goal.invariant_of-self
invariant_of-self c =
    numbered_next (record { name = c.self.inside.name; sent = c.self.inside.sent; messages = c.self.inside.messages }) c.args.letter c.number.new.letter
    c.join.new.list c.self.invariant c.requires.one c.number.ensures c.join.ensures
