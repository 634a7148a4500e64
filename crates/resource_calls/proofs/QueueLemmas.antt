-- A queue with a message to delete exists: `queue_there`. `none_deleted` and `some_deleted` say what is decided of a DeleteMessages.
use Rattle.std.proofs.Common.{◌≡◌, ℕ, ◌<◌, Bool, true, false, List, [], ◌∷◌, length, refl, arith}
use Rattle.std.specs.Prelude.{cond}
use Rattle.std.specs.Str.{bytes_eq}
use Rattle.delivery_queues.specs.declared.stored.StoredMessage.{StoredMessage}
use Rattle.delivery_queues.specs.Queues as queues
use Rattle.delivery_queues.specs.Queues.{Queue, messages_of, messages_through}
use Rattle.call_replies.specs.Replies.{deletion_reply}
use Rattle.router_requests.specs.Batch.{messages_deleted}
use Rattle.resource_calls.specs.Decision.{deletion_of, shown, writes}

pub none_deleted : (queue : List ℕ) (through : ℕ) (messages : List StoredMessage) → length messages ≡ 0
    → shown (deletion_reply (length messages)) ≡ deletion_of queue through messages
none_deleted queue through [] none = refl
none_deleted queue through (m ∷ ms) none = absurd (omega arith)

pub some_deleted : (queue : List ℕ) (through : ℕ) (messages : List StoredMessage) → 0 < length messages
    → writes (messages_deleted queue through) (deletion_reply (length messages)) ≡ deletion_of queue through messages
some_deleted queue through [] some = absurd (omega arith)
some_deleted queue through (m ∷ ms) some = refl

there_step : (b : Bool) (through : ℕ) (xs ys : List StoredMessage) (rest : Bool) → (0 < length (messages_through through ys) → rest ≡ true)
    → 0 < length (messages_through through (cond b xs ys)) → cond b true rest ≡ true
there_step true through xs ys rest more some = refl
there_step false through xs ys rest more some = more some

pub queue_there : (queue : List ℕ) (through : ℕ) (all : List Queue) → 0 < length (messages_through through (messages_of queue all))
    → queues.has_queue queue all ≡ true
queue_there queue through [] some = absurd (omega (arith, some))
queue_there queue through (m ∷ ms) some =
    there_step (bytes_eq m.name queue) through m.messages (messages_of queue ms) (queues.has_queue queue ms) (queue_there queue through ms) some
