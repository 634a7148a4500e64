-- For private clauses alone: the invariant of a queue.
use Rattle.std.specs.Prelude.{◌<◌, ◌≤◌, List, [], ◌∷◌, All, length}
use Rattle.delivery_queues.specs.declared.stored.StoredMessage.{StoredMessage}
use Rattle.delivery_queues.specs.Queues.{Queue}

-- the numbers of the messages rise
abbrev pub AreRising : List StoredMessage → Type 0
AreRising [] = Unit {0}
AreRising (m ∷ ms) = All (λ other. m.number < other.number) ms × AreRising ms

-- the numbers of the queue's messages rise, none is above that of the last message, and the queue has no more messages than it was sent
pub record IsNumbered (m : Queue) : Type 0 where
  pub rising : AreRising m.messages
  pub by_last : All (λ other. other.number ≤ m.sent) m.messages
  pub few : length m.messages ≤ m.sent
