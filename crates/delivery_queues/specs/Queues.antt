-- Queues and their messages. This project's own rules.
use Rattle.std.specs.Prelude.{◌≡◌, ℕ, ◌+◌, Bool, true, false, not, nat_le, if◌then◌else◌, List, [], ◌∷◌, ◌++◌, Option, Any, filter, length}
use Rattle.std.specs.List.{sum_by}
use Rattle.std.specs.Str.{bytes_eq}
use Rattle.event_shape.specs.Names.{queue_arn}
use Rattle.name_rows.specs.Rows.{placed, without}
use Rattle.delivery_queues.specs.declared.stored.DeadLetter.{DeadLetter}
use Rattle.delivery_queues.specs.declared.stored.StoredMessage.{StoredMessage}

-- A queue: its name, the number of its last message, and its messages, oldest first.
-- Shown by: tables delivery_duties.rows: numbers_go_on_after_a_delete.
pub record Queue : Type 0 where
  pub name : List ℕ
  pub sent : ℕ
  pub messages : List StoredMessage

-- The name of a queue.
-- Shown by: proofs alone.
abbrev pub name_of : Queue → List ℕ
name_of m = m.name

-- A queue with no message.
-- Shown by: delete-queue.
abbrev pub empty_queue : List ℕ → Queue
empty_queue name = record { name = name; sent = 0; messages = [] }

-- The queue that is there stays.
-- Shown by: delete-queue.
abbrev pub keeping : Queue → Queue → Queue
keeping old new = old

-- The queues, in the byte order of their names, with one of this name, which is empty if there was none.
-- Shown by: delete-queue; tables delivery_duties.rows: numbers_go_on_after_a_delete.
abbrev pub with_queue : List ℕ → List Queue → List Queue
with_queue name queues = placed name_of keeping (empty_queue name) queues

-- The queues without the one of this name.
-- Shown by: delete-queue.
abbrev pub without_queue : List ℕ → List Queue → List Queue
without_queue name queues = without name_of name queues

-- One of the queues has this name.
-- Shown by: tables delivery_duties.rows: numbers_go_on_after_a_delete.
abbrev pub has_queue : List ℕ → List Queue → Bool
has_queue queue [] = false
has_queue queue (m ∷ ms) = if bytes_eq m.name queue then true else has_queue queue ms

-- The text is the ARN of one of the queues.
-- Shown by: table_tests test_delivery_duties.rt: each_delivery_ends_in_time.
abbrev pub IsArnOfOne : List ℕ → List Queue → Type 0
IsArnOfOne arn queues = Any (λ m. arn ≡ queue_arn m.name) queues

-- the message that is next in a queue to which this number of messages was sent
abbrev pub next_message : ℕ → List ℕ → Option DeadLetter → StoredMessage
next_message sent body dead = record { number = sent + 1; body = body; dead = dead }

-- The queue, with the text as its next message.
-- Shown by: tables delivery_duties.rows: numbers_go_on_after_a_delete.
abbrev pub with_next : List ℕ → Option DeadLetter → Queue → Queue
with_next body dead m = record m { sent = m.sent + 1; messages = m.messages ++ next_message m.sent body dead ∷ [] }

-- The queues, with this change of the first one that passes the test; unchanged if none does.
-- Shown by: tables delivery_duties.rows: numbers_go_on_after_a_delete.
abbrev pub changed_first : (Queue → Bool) → (Queue → Queue) → List Queue → List Queue
changed_first test change [] = []
changed_first test change (m ∷ ms) = if test m then change m ∷ ms else m ∷ changed_first test change ms

-- The queue has this ARN.
-- Shown by: table_tests test_delivery_duties.rt: each_delivery_ends_in_time.
abbrev pub has_arn : List ℕ → Queue → Bool
has_arn arn m = bytes_eq arn (queue_arn m.name)

-- the queue has this name
abbrev pub is_named : List ℕ → Queue → Bool
is_named name m = bytes_eq m.name name

-- The queue that has this ARN gets the text as its next message; nothing changes if there is none.
-- Shown by: tables delivery_duties.rows: numbers_go_on_after_a_delete.
abbrev pub sent_to : List ℕ → List ℕ → Option DeadLetter → List Queue → List Queue
sent_to arn body dead queues = changed_first (has_arn arn) (with_next body dead) queues

-- The messages of the queue of this name; none if there is no such queue.
-- Shown by: tables delivery_duties.rows: numbers_go_on_after_a_delete.
abbrev pub messages_of : List ℕ → List Queue → List StoredMessage
messages_of queue [] = []
messages_of queue (m ∷ ms) = if bytes_eq m.name queue then m.messages else messages_of queue ms

-- the messages with greater numbers
abbrev pub messages_after : ℕ → List StoredMessage → List StoredMessage
messages_after through messages = filter (λ m. not (nat_le m.number through)) messages

-- The messages with numbers up to this one.
-- Shown by: tables delivery_duties.rows: messages_up_to_a_number_are_counted.
abbrev pub messages_through : ℕ → List StoredMessage → List StoredMessage
messages_through through messages = filter (λ m. nat_le m.number through) messages

-- the queue without its messages with numbers up to this one; it numbers on
abbrev pub without_through : ℕ → Queue → Queue
without_through through m = record m { messages = messages_after through m.messages }

-- The queue of this name loses its messages with numbers up to this one, and numbers on.
-- Shown by: numbers_begin_anew_after_a_delete.edit.
abbrev pub deleted_through : List ℕ → ℕ → List Queue → List Queue
deleted_through queue through queues = changed_first (is_named queue) (without_through through) queues

-- The number of messages of all queues.
-- Shown by: program_tests serve.rt: two_workers_serve_the_first_run.
abbrev pub message_count : List Queue → ℕ
message_count queues = sum_by (λ (m : Queue). length m.messages) queues
