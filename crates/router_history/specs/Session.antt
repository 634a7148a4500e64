-- A session as one list of acts.
use Rattle.std.specs.Prelude.{◌≡◌, ◌≢◌, ◌+◌, ◌==◌, ◌||◌, ◌⊎◌, ℕ, Bool, true, false, List, [], ◌∷◌, ◌++◌, None, Result}
use Rattle.router_requests.specs.Batch.{Batch}
use Rattle.router_requests.specs.Request.{deliver_due, step_replays, Request}
use Rattle.api_replies.specs.declared.cause.Cause.{Cause}
use Rattle.api_replies.specs.Reply.{Reply, refused as refusal_of, not_post, no_memory}
use Rattle.api_replies.specs.Written.{reply_text, reply_head}
use Rattle.api_messages.specs.declared.message.Message.{Message}
use Rattle.api_messages.specs.declared.message.Refusal.{Refusal}
use Rattle.api_messages.specs.declared.method.Method.{Method}
use Rattle.api_messages.specs.declared.method.Method.TheVariants.{Post, Head, Other}
use Rattle.api_messages.specs.Fields.{is_post}
use Rattle.api_messages.specs.Messages.{HoldsMessage, IsAwaited, IsRefused}
use Rattle.api_messages.specs.Between.{AreEmptyLines, HasHead}
use Rattle.api_wire.specs.Call.{IsAsked, IsCallRefused}
use Rattle.courier_run.specs.Claim.{moment_of}
use Rattle.courier_run.specs.Act.{reads, ticks, looks, makes, writes}
use Rattle.courier_run.specs.declared.turned.Turned.{Turned}
use Rattle.courier_run.specs.declared.stepped.Stop.{Stop}
use Rattle.step_run.specs.declared.fault.StepsFault.{StepsFault}
use Rattle.message_streams.specs.declared.farewell.SessionEnd.{SessionEnd}
use Rattle.message_streams.specs.declared.farewell.SessionEnd.TheVariants as ends
use Rattle.message_streams.specs.Incoming.{IsPiece, IsWhole}
use Rattle.message_streams.specs.Farewell.{refusal_reply}
use Rattle.message_streams.specs.Reply.{journal_failed, steps_reply, replays_reply}
use Rattle.router_history.specs.declared.book.Seat.{Seat}
use Rattle.router_history.specs.History.{State, Placed, asked, breaks, last_version, IsAnsweredBy, WouldWrite}
use Rattle.router_history.specs.Acts.{Act, Steps, Repeating, World, Does}

-- The turn answers the request with this reply (`IsAnsweredBy`).
-- Shown by: first-run.
abbrev pub Replies : Placed → Request → Reply → Type 0
Replies p request reply = (p.turn.ask ≡ asked request) × IsAnsweredBy p.before p.turn request reply

-- The turn breaks the book: appending the batch of the turn that would answer the request failed.
-- Shown by: proofs alone.
abbrev pub Fails : Placed → Request → Type 0
Fails p request = (b : Batch) × (p.turn.ask ≡ breaks (b ∷ [])) × WouldWrite p.before p.turn.k request b

-- The book is broken, and a turn that answers the request by the latest version would write a batch.
-- Shown by: proofs alone.
abbrev pub IsFailed : State → Request → Type 0
IsFailed s request = (s.broken ≡ true) × ((b : Batch) × WouldWrite s (last_version s) request b)

-- What is done for a message, with its reply. A message that is no POST, one that is refused, and one for which memory ran out take a
-- reading; so does a request, and then its turn, or the steps of a DeliverDue or of a StepReplays. If memory runs out for the reply to a request that changed
-- nothing, the reply says so. Out of memory is allowed for any POST. A request whose batch cannot be appended breaks the book; one that would
-- write on a broken book is not carried out after a look.
-- Shown by: first-run; refusals; get-is-refused.
pub data Answers (m : Message) : List Act → Reply → Type 0 where
  unposted : (reading : ℕ) → is_post m.method ≡ false → Answers m (ticks reading ∷ []) not_post
  refused : (reading : ℕ) (c : Cause) → is_post m.method ≡ true → IsCallRefused m c → Answers m (ticks reading ∷ []) (refusal_of c)
  out_of_memory : (reading : ℕ) → is_post m.method ≡ true → Answers m (ticks reading ∷ []) no_memory
  served : (reading : ℕ) (request : Request) (p : Placed) (reply : Reply) → is_post m.method ≡ true → IsAsked m (moment_of reading) request
      → Replies p request reply → Answers m (ticks reading ∷ makes p ∷ []) reply
  unrendered : (reading : ℕ) (request : Request) (p : Placed) (reply : Reply) → is_post m.method ≡ true → IsAsked m (moment_of reading) request
      → Replies p request reply → p.turn.batch ≡ None → Answers m (ticks reading ∷ makes p ∷ []) no_memory
  failed : (reading : ℕ) (request : Request) (p : Placed) → is_post m.method ≡ true → IsAsked m (moment_of reading) request → Fails p request
      → Answers m (ticks reading ∷ makes p ∷ []) journal_failed
  failed_before : (reading : ℕ) (request : Request) (s : State) → is_post m.method ≡ true → IsAsked m (moment_of reading) request
      → IsFailed s request → Answers m (ticks reading ∷ looks s ∷ []) journal_failed
  stepped : (reading : ℕ) (request : Request) (budget : ℕ) (acts : List Act) (turned : Turned) (stop : Stop) → is_post m.method ≡ true
      → IsAsked m (moment_of reading) request → request.action ≡ deliver_due budget → Steps budget acts turned stop
      → Answers m (ticks reading ∷ acts) (steps_reply turned stop)
  repeated : (reading : ℕ) (request : Request) (budget : ℕ) (acts : List Act) (result : Result ℕ StepsFault) → is_post m.method ≡ true
      → IsAsked m (moment_of reading) request → request.action ≡ step_replays budget → Repeating budget acts result
      → Answers m (ticks reading ∷ acts) (replays_reply result)

-- What is written for a reply: all of it, or `reply_head` for a HEAD.
-- Shown by: head-request.
abbrev pub sent_text : Method → Reply → Bool → List ℕ
sent_text Post reply close = reply_text reply close
sent_text Head reply close = reply_head reply close
sent_text Other reply close = reply_text reply close

-- The number of messages that one session serves: 1,048,576 (this project's own limit).
-- Shown by: .ci/checks/limits.sh.
abbrev pub request_limit : ℕ
request_limit = 1048576

-- Whether the session ends after a message, the n-th: the message asks for it, or it is the last that a session serves.
-- Shown by: close-is-asked.
abbrev pub closes : ℕ → Message → Bool
closes n m = m.close || (n == request_limit)

-- A session that goes on: the messages answered, the bytes that were read and not yet taken, and its acts. It begins with a look. It reads
-- only if the bytes are the beginning of a message, and answers each message as soon as it is whole.
-- Shown by: session_tests tests.rt: the_first_run_has_its_replies.
pub data Serving : ℕ → List ℕ → List Act → Type 0 where
  begun : (s : State) → Serving 0 [] (looks s ∷ [])
  reads_on : (n : ℕ) (held piece : List ℕ) (acts : List Act) → Serving n held acts → IsAwaited held → IsPiece piece
      → Serving n (held ++ piece) (acts ++ reads piece ∷ [])
  answers : (n : ℕ) (held rest : List ℕ) (acts done : List Act) (m : Message) (reply : Reply) → Serving n held acts → HoldsMessage held m rest
      → Answers m done reply → closes (n + 1) m ≡ false → Serving (n + 1) rest (acts ++ (done ++ writes (sent_text m.method reply false) ∷ []))

-- The last message of a session: it was answered after n others, and its text is this.
-- Shown by: close-is-asked.
pub record IsLast (n : ℕ) (m : Message) (acts : List Act) (text : List ℕ) : Type 0 where
  pub held : List ℕ
  pub rest : List ℕ
  pub before : List Act
  pub done : List Act
  pub reply : Reply
  pub serving : Serving n held before
  pub whole : HoldsMessage held m rest
  pub answers : Answers m done reply
  pub acts_are : acts ≡ before ++ done
  pub text_is : text ≡ sent_text m.method reply (closes (n + 1) m)

-- What is written once no message follows: the reply to a refusal; or out of memory, if a whole head is there. It has its body, whatever the
-- method.
-- Shown by: bad-head; .ci/checks/limits.sh.
pub data IsFarewell (held : List ℕ) : List ℕ → SessionEnd → Type 0 where
  refused : (why : Refusal) → IsRefused held why → IsFarewell held (reply_text (refusal_reply why) true) ends.Refused
  starved : (IsAwaited held ⊎ IsWhole held) → HasHead held → IsFarewell held (reply_text no_memory true) ends.NoMemory

-- A session that ended, by why.
-- Shown by: session_tests tests.rt: input_cut_inside_a_message_gets_the_replies_before_it, a_failed_third_write_leaves_two_replies.
pub data Ended : SessionEnd → List Act → Type 0 where
  -- the input ended between two messages
  closed_by_end : (n : ℕ) (held : List ℕ) (acts : List Act) → Serving n held acts → AreEmptyLines held → IsAwaited held
      → Ended ends.Closed (acts ++ reads [] ∷ [])
  -- the input ended inside a message
  cut : (n : ℕ) (held : List ℕ) (acts : List Act) → Serving n held acts → (¬ AreEmptyLines held) → IsAwaited held → Ended ends.Cut (acts ++ reads [] ∷ [])
  -- a message asked to close
  closed_by_message : (n : ℕ) (m : Message) (acts : List Act) (text : List ℕ) → IsLast n m acts text → m.close ≡ true → n + 1 ≢ request_limit
      → Ended ends.Closed (acts ++ writes text ∷ [])
  -- the last message that a session serves
  long : (n : ℕ) (m : Message) (acts : List Act) (text : List ℕ) → IsLast n m acts text → n + 1 ≡ request_limit
      → Ended ends.Long (acts ++ writes text ∷ [])
  -- no message begins with the bytes, or memory ran out
  farewell : (n : ℕ) (held : List ℕ) (acts : List Act) (text : List ℕ) (end : SessionEnd) → Serving n held acts → IsFarewell held text end
      → Ended end (acts ++ writes text ∷ [])
  -- memory ran out, and no whole head is there
  starved_early : (n : ℕ) (held : List ℕ) (acts : List Act) → Serving n held acts → IsAwaited held → (¬ HasHead held) → Ended ends.NoMemory acts
  -- a read failed
  read_fault : (n : ℕ) (held : List ℕ) (acts : List Act) → Serving n held acts → IsAwaited held → Ended ends.ReadFault acts
  -- a write failed: a first part of its text was written
  unwritten : (n : ℕ) (m : Message) (acts : List Act) (part rest : List ℕ) → IsLast n m acts (part ++ rest) → Ended ends.WriteFault (acts ++ writes part ∷ [])
  farewell_unwritten : (n : ℕ) (held : List ℕ) (acts : List Act) (part rest : List ℕ) (end : SessionEnd) → Serving n held acts
      → IsFarewell held (part ++ rest) end → Ended ends.WriteFault (acts ++ writes part ∷ [])

-- A session from a seat: acts that end so, and are all that happened.
-- Shown by: session_tests tests.rt: the_first_run_has_its_replies.
abbrev pub IsSession : Seat → World → World → SessionEnd → Type 0
IsSession seat old new end = (acts : List Act) × Ended end acts × Does seat acts old new
