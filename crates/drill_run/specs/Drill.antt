-- The program while it drills: sessions over messages that it makes itself, one after the other, on one book in memory.
use Rattle.std.specs.Prelude.{◌≡◌, ◌≢◌, ◌⊎◌, ℕ, Bool, true, false, nat_eq, List, [], ◌∷◌, ◌++◌, All, codes}
use Rattle.std.specs.List.{concat, starts_with}
use Rattle.program_lines.specs.declared.status.Status.{Status}
use Rattle.program_lines.specs.declared.status.Status.TheVariants as statuses
use Rattle.api_replies.specs.Reply.{counted}
use Rattle.api_replies.specs.Written.{reply_text}
use Rattle.drill_requests.specs.Messages.{drill_messages, deliver_due}
use Rattle.message_streams.specs.declared.farewell.SessionEnd.TheVariants as ends
use Rattle.router_history.specs.History.{Turn, state_of}
use Rattle.router_history.specs.Book.{opening, IsBook}
use Rattle.router_history.specs.Acts.{world}
use Rattle.router_history.specs.Session.{IsSession}
use Rattle.drill_run.specs.declared.run.Round.{Round}
use Rattle.drill_run.specs.declared.run.Round.TheVariants as rounds
use Rattle.drill_run.specs.OnePass.{IsOfOnePass, only_seat}
use Rattle.tables_summary.specs.Summary.{IsSummed}

-- Every reading of a drill, in seconds since 1970.
-- Shown by: the_drill_reads_the_clock.edit.
abbrev pub drill_moment : ℕ
drill_moment = 1700000000

-- Whether a reply begins with status 200 (RFC 9112, section 4).
-- Shown by: a_refusal_is_passed_over.edit.
abbrev pub has_status_200 : List ℕ → Bool
has_status_200 reply = starts_with nat_eq reply (codes "HTTP/1.1 200 ")

-- The reply to a DeliverDue that made no attempt.
-- Shown by: delivered_once_only.edit.
abbrev pub no_attempt_text : List ℕ
no_attempt_text = reply_text (counted (record { attempts = 0; delivered = 0; dead_lettered = 0; dropped = 0 })) false

-- A session over a message alone, which it read to its end. It ended between messages, and wrote this reply, with status 200. Every reading
-- was that of drills, and no endpoint answered.
-- Shown by: drill-three-events; a_refusal_is_passed_over.edit.
pub record HasReply (message reply : List ℕ) (old new : List Turn) : Type 0 where
  pub gave : List (List ℕ)
  pub whole : concat gave ≡ message
  pub readings : List ℕ
  pub moment : All (λ r. r ≡ drill_moment) readings
  pub faults : ℕ
  pub faults_new : ℕ
  pub session : IsSession only_seat (world old [] [] [] [] faults) (world new gave reply readings [] faults_new) ends.Closed
  pub success : has_status_200 reply ≡ true

-- Sessions over these messages, in order, lead from the first book to this one (`HasReply`).
-- Shown by: drill-three-events.
pub data LeadTo : List (List ℕ) → List Turn → Type 0 where
  begun : LeadTo [] (opening ∷ [])
  more : (messages : List (List ℕ)) (message reply : List ℕ) (old new : List Turn) → LeadTo messages old → HasReply message reply old new
      → LeadTo (messages ++ message ∷ []) new

-- The messages of a drill lead to a book, and on it each DeliverDue so far made an attempt.
-- Shown by: delivered_once_only.edit.
pub data IsDelivering (seed events : ℕ) : List Turn → Type 0 where
  loaded : (turns : List Turn) → LeadTo (drill_messages seed events) turns → IsDelivering seed events turns
  again : (reply : List ℕ) (old new : List Turn) → IsDelivering seed events old → HasReply deliver_due reply old new → reply ≢ no_attempt_text
      → IsDelivering seed events new

-- The book of a drill, by its seed and its number of events: its messages, and DeliverDue until one makes no attempt, led to it.
-- Shown by: drill-three-events; delivered_once_only.edit.
abbrev pub IsDrilled : ℕ → ℕ → List Turn → Type 0
IsDrilled seed events turns = (before : List Turn) × IsDelivering seed events before × HasReply deliver_due no_attempt_text before turns

-- What a program that drills writes, and its status: the summary of a drilled book's tables with `Done`, a first part of it with `WriteFault`, or
-- nothing with `NoMemory`.
-- Shown by: drill-three-events; program_tests drill.rt: a_drill_writes_its_summary_or_nothing.
abbrev pub IsDrill : ℕ → ℕ → List ℕ → List ℕ → Status → Type 0
IsDrill seed events old new status =
    ((turns : List Turn) × IsDrilled seed events turns × IsOfOnePass turns × IsSummed (state_of turns).tables old new status)
    ⊎ ((status ≡ statuses.NoMemory) × (new ≡ old))

-- what the reply to a DeliverDue says, for private clauses
abbrev pub IsRound : List ℕ → Round → Type 0
IsRound reply rounds.More = reply ≢ no_attempt_text
IsRound reply rounds.Last = reply ≡ no_attempt_text
IsRound reply rounds.Failed = ⊥

-- what a DeliverDue came to, for private clauses
abbrev pub EndsRound : Round → List Turn → List Turn → Type 0
EndsRound rounds.More old new = (reply : List ℕ) × HasReply deliver_due reply old new × (reply ≢ no_attempt_text) × IsBook new
EndsRound rounds.Last old new = HasReply deliver_due no_attempt_text old new × IsBook new
EndsRound rounds.Failed old new = Unit {0}
