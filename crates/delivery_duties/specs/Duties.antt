-- Duties and their fates. A duty is the delivery of one event to one target. An endpoint is the ARN of a queue or the URL of an HTTP
-- endpoint. This project's own rules.
use Rattle.std.specs.Prelude.{◌≡◌, ℕ, ◌+◌, ◌<◌, ◌≤◌, ◌⊎◌, Bool, true, false, not, ◌==◌, ◌||◌, if◌then◌else◌, List, [], ◌∷◌, ◌++◌}
use Rattle.std.specs.Prelude.{length, Option, Some, None, Any, Contains, filter}
use Rattle.event_shape.specs.Names.{queue_arn}
use Rattle.key_tree.specs.Entries.{placed, value_at, without, AreSorted}
use Rattle.delivery_duties.specs.declared.duty.NewDuty.{NewDuty}
use Rattle.delivery_duties.specs.declared.duty.DutyRow.{DutyRow}
use Rattle.shared_text.specs.declared.row.TargetRow.{TargetRow}
use Rattle.delivery_queues.specs.declared.stored.DeadLetter.{DeadLetter}
use Rattle.delivery_duties.specs.declared.outcome.Outcome.{Outcome}
use Rattle.delivery_duties.specs.declared.outcome.Fate.{Fate}
use Rattle.delivery_duties.specs.declared.outcome.Fate.TheVariants.{Pending, Delivered, DeadLettered, Dropped}
use Rattle.delivery_duties.specs.declared.outcome.SettledDuty.{SettledDuty}
use Rattle.delivery_queues.specs.declared.failure.Failure.{Failure}
use Rattle.delivery_duties.specs.declared.verdict.Verdict.{Verdict}
use Rattle.delivery_duties.specs.declared.verdict.Verdict.TheVariants.{Deliver, Retry, Fail}
use Rattle.delivery_duties.specs.Retry.{Attempt, begun, retried, verdict_of, too_long, dead_letter_queue, failed_fate}
use Rattle.std.specs.List.{list_any}
use Rattle.std.specs.Str.{bytes_eq}
use Rattle.delivery_queues.specs.Queues.{Queue, has_arn, sent_to, messages_of, with_queue, without_queue, deleted_through}

-- The pending duties by number; the duties that ended, in the order of their ends; the queues, in the byte order of their names; and the
-- number of duties made so far.
-- Shown by: table_tests test_delivery_duties.rt: each_delivery_ends_in_time.
pub record Duties : Type 0 where
  pub pending : List (ℕ × DutyRow)
  pub ended : List SettledDuty
  pub queues : List Queue
  pub created : ℕ

-- No duty and no queue.
-- Shown by: table_tests test_delivery_duties.rt: each_delivery_ends_in_time.
abbrev pub no_duties : Duties
no_duties = record { pending = []; ended = []; queues = []; created = 0 }

-- The pending duty of this number, if there is one.
-- Shown by: table_tests test_delivery_duties.rt: each_delivery_ends_in_time.
abbrev pub pending_row : ℕ → Duties → Option DutyRow
pending_row number s = value_at number s.pending

-- the rows by number, with this row in place of the row of its number
abbrev pub replaced : DutyRow → List (ℕ × DutyRow) → List (ℕ × DutyRow)
replaced row rows = placed (row.number, row) (without row.number rows)

-- one of the queues has this ARN, if there is one
abbrev pub is_one_of : Option (List ℕ) → List Queue → Bool
is_one_of None queues = false
is_one_of (Some arn) queues = list_any (has_arn arn) queues

-- The target names a dead-letter queue, and one of the queues has its ARN.
-- Shown by: table_tests test_delivery_duties.rt: each_delivery_ends_in_time.
abbrev pub has_dead_letter_queue : TargetRow → List Queue → Bool
has_dead_letter_queue target queues = is_one_of target.dead_letter queues

-- what a queue stores of a dead letter; a delivered text has no failure
abbrev pub dead_letter_of : TargetRow → Option Failure → Option DeadLetter
dead_letter_of target None = None
dead_letter_of target (Some failure) = Some (record { target = target; failure = failure })

-- the queues, with the text of the duty as the next message of its target, if that is one of the queues
abbrev pub delivered : DutyRow → List Queue → List Queue
delivered row queues = sent_to row.duty.target.endpoint row.duty.text None queues

-- the queues, with the text of the duty as the next message of the dead-letter queue, if there is one
abbrev pub dead_lettered : Option (List ℕ) → Failure → DutyRow → List Queue → List Queue
dead_lettered None failure row queues = queues
dead_lettered (Some arn) failure row queues = sent_to arn row.duty.text (dead_letter_of row.duty.target (Some failure)) queues

-- the duty of this row ends with this fate; these are the queues then
abbrev pub ended_as : DutyRow → Fate → List Queue → Duties → Duties
ended_as row fate queues s = record s {
  pending = without row.number s.pending;
  ended = s.ended ++ record { number = row.number; fate = fate } ∷ [];
  queues = queues;
}

-- the duty of this row ends without a delivery: its text becomes a message of the dead-letter queue, if there is one
abbrev pub failed : Option (List ℕ) → Failure → DutyRow → Duties → Duties
failed arn failure row s = ended_as row (failed_fate arn) (dead_lettered arn failure row s.queues) s

-- A duty gets the next number and is due at once; one whose text is too long ends at once.
-- Shown by: table_tests test_delivery_duties.rt: each_delivery_ends_in_time.
abbrev pub added_one : NewDuty → ℕ → Duties → Duties
added_one duty moment s =
    let row : DutyRow = begun (s.created + 1) moment duty in
    if duty.too_long then failed (dead_letter_queue duty.target (has_dead_letter_queue duty.target s.queues)) too_long row
    (record s { created = s.created + 1 })
    else record s { created = s.created + 1; pending = placed (s.created + 1, row) s.pending }

-- Duties are added in their order.
-- Shown by: table_tests test_delivery_duties.rt: each_delivery_ends_in_time.
abbrev pub added : List NewDuty → ℕ → Duties → Duties
added [] moment s = s
added (duty ∷ duties) moment s = added duties moment (added_one duty moment s)

-- A row is due earlier than another, or at the same moment with a number that is not greater.
-- Shown by: order_by_number_alone.edit.
abbrev pub IsNoLater : DutyRow → DutyRow → Type 0
IsNoLater row other = (row.due < other.due) ⊎ ((row.due ≡ other.due) × (row.number ≤ other.number))

-- Of the duties that are due and not claimed, the one of this number comes first: by due moment, then by number.
-- Shown by: order_by_number_alone.edit.
pub record IsNext (s : Duties) (moment number : ℕ) : Type 0 where
  pub row : DutyRow
  pub there : pending_row number s ≡ Some row
  pub free : row.claimed ≡ false
  pub due : row.due ≤ moment
  pub first : (n : ℕ) (other : DutyRow) → pending_row n s ≡ Some other → other.claimed ≡ false → other.due ≤ moment → IsNoLater row other

-- No duty that is not claimed is due.
-- Shown by: table_tests test_delivery_duties.rt: each_delivery_ends_in_time.
abbrev pub NoneDue : Duties → ℕ → Type 0
NoneDue s moment = (n : ℕ) (row : DutyRow) → pending_row n s ≡ Some row → row.claimed ≡ false → moment < row.due

-- The duty of this number is pending and claimed.
-- Shown by: table_tests test_delivery_duties.rt: each_delivery_ends_in_time.
abbrev pub IsOut : ℕ → Duties → Type 0
IsOut number s = (row : DutyRow) × (pending_row number s ≡ Some row) × (row.claimed ≡ true)

-- The duty of this number is pending and not claimed.
-- Shown by: table_tests test_delivery_duties.rt: each_delivery_ends_in_time.
abbrev pub IsFree : ℕ → Duties → Type 0
IsFree number s = (row : DutyRow) × (pending_row number s ≡ Some row) × (row.claimed ≡ false)

-- The pending duties are in the order of their numbers, each under its own.
-- Shown by: table_tests test_delivery_duties.rt: each_delivery_ends_in_time.
pub record IsOrdered (s : Duties) : Type 0 where
  pub sorted : AreSorted s.pending
  pub named : (n : ℕ) (row : DutyRow) → pending_row n s ≡ Some row → row.number ≡ n

-- the row has this mark
abbrev pub marked_row : Bool → Option DutyRow → Duties → Duties
marked_row mark None s = s
marked_row mark (Some row) s = record s { pending = replaced (record row { claimed = mark }) s.pending }

-- The duty of this number is marked as claimed; nothing else changes.
-- Shown by: table_tests test_delivery_duties.rt: each_delivery_ends_in_time.
abbrev pub claimed : ℕ → Duties → Duties
claimed number s = marked_row true (pending_row number s) s

-- The duty of this number is no longer marked as claimed; nothing else changes.
-- Shown by: law a_claim_put_back_changes_nothing.
abbrev pub unclaimed : ℕ → Duties → Duties
unclaimed number s = marked_row false (pending_row number s) s

-- the duty of this row after an attempt, by what the attempt makes of it
abbrev pub settled_by : DutyRow → Attempt → Verdict → Duties → Duties
settled_by row attempt Deliver s = ended_as row Delivered (delivered row s.queues) s
settled_by row attempt (Retry due) s = record s { pending = replaced (retried due attempt.outcome row) s.pending }
settled_by row attempt (Fail failure) s = failed (dead_letter_queue row.duty.target attempt.has_dead_letter_queue) failure row s

-- An attempt of a pending duty as it is recorded; the queues say whether its dead-letter queue exists.
-- Shown by: table_tests test_delivery_duties.rt: each_delivery_ends_in_time.
abbrev pub attempt_of : DutyRow → ℕ → Outcome → Duties → Attempt
attempt_of row moment outcome s =
    record { moment = moment; outcome = outcome; has_dead_letter_queue = has_dead_letter_queue row.duty.target s.queues }

-- the duty of this row, if there is one, after an attempt at the moment, which ended with the outcome
abbrev pub settled_row : Option DutyRow → ℕ → Outcome → Duties → Duties
settled_row None moment outcome s = s
settled_row (Some row) moment outcome s = settled_by row (attempt_of row moment outcome s) (verdict_of row moment outcome) s

-- The duty of this number after an attempt: its queue gets its text, it is due again, its text becomes a dead letter, or it is dropped.
-- Number and fate of a duty that ends are recorded.
-- Shown by: table_tests test_delivery_duties.rt: each_delivery_ends_in_time.
abbrev pub settled : ℕ → ℕ → Outcome → Duties → Duties
settled number moment outcome s = settled_row (pending_row number s) moment outcome s

abbrev pub is_delivered : Fate → Bool
is_delivered Pending = false
is_delivered Delivered = true
is_delivered DeadLettered = false
is_delivered Dropped = false

abbrev pub is_dead_lettered : Fate → Bool
is_dead_lettered Pending = false
is_dead_lettered Delivered = false
is_dead_lettered DeadLettered = true
is_dead_lettered Dropped = false

abbrev pub is_dropped : Fate → Bool
is_dropped Pending = false
is_dropped Delivered = false
is_dropped DeadLettered = false
is_dropped Dropped = true

-- the duty was delivered
abbrev pub was_delivered : SettledDuty → Bool
was_delivered d = is_delivered d.fate

-- the duty became a message of its dead-letter queue
abbrev pub was_dead_lettered : SettledDuty → Bool
was_dead_lettered d = is_dead_lettered d.fate

-- the duty was dropped
abbrev pub was_dropped : SettledDuty → Bool
was_dropped d = is_dropped d.fate

-- The number of ended duties that were delivered.
-- Shown by: tables delivery_duties.rows: numbers_go_on_after_a_delete.
abbrev pub delivered_of : List SettledDuty → ℕ
delivered_of ended = length (filter was_delivered ended)

-- The number of ended duties that were dead-lettered.
-- Shown by: table_tests test_delivery_duties.rt: each_delivery_ends_in_time.
abbrev pub dead_lettered_of : List SettledDuty → ℕ
dead_lettered_of ended = length (filter was_dead_lettered ended)

-- The number of ended duties that were dropped.
-- Shown by: table_tests test_delivery_duties.rt: each_delivery_ends_in_time.
abbrev pub dropped_of : List SettledDuty → ℕ
dropped_of ended = length (filter was_dropped ended)

-- A pending duty has this number.
-- Shown by: table_tests test_delivery_duties.rt: each_delivery_ends_in_time.
abbrev pub IsPending : ℕ → List (ℕ × DutyRow) → Type 0
IsPending number rows = (row : DutyRow) × (value_at number rows ≡ Some row)

-- An ended duty has this number.
-- Shown by: table_tests test_delivery_duties.rt: each_delivery_ends_in_time.
abbrev pub HasEnded : ℕ → List SettledDuty → Type 0
HasEnded number ended = Any (λ d. d.number ≡ number) ended

-- The duty of this number is pending and has not ended, or has ended once and is not pending.
-- Shown by: table_tests test_delivery_duties.rt: each_delivery_ends_in_time.
abbrev pub HasOneFate : ℕ → Duties → Type 0
HasOneFate number s =
    (IsPending number s.pending × (HasEnded number s.ended → ⊥))
    ⊎ ((IsPending number s.pending → ⊥) × ((d : SettledDuty) × Contains s.ended d × (d.number ≡ number) × (d.fate ≡ Pending → ⊥)
    × ((other : SettledDuty) → Contains s.ended other → other.number ≡ number → other ≡ d)))

-- A queue is created without messages; one that is there stays as it is.
-- Shown by: delete-queue; tables delivery_duties.rows: numbers_go_on_after_a_delete.
abbrev pub with_new_queue : List ℕ → Duties → Duties
with_new_queue name s = record s { queues = with_queue name s.queues }

-- A queue is deleted with its messages.
-- Shown by: delete-queue.
abbrev pub forgotten : List ℕ → Duties → Duties
forgotten name s = record s { queues = without_queue name s.queues }

-- The messages of a queue with numbers up to this one are deleted.
-- Shown by: tables delivery_duties.rows: numbers_go_on_after_a_delete.
abbrev pub with_deleted : List ℕ → ℕ → Duties → Duties
with_deleted queue through s = record s { queues = deleted_through queue through s.queues }

-- this text is given
abbrev pub is_given_as : List ℕ → Option (List ℕ) → Bool
is_given_as text None = false
is_given_as text (Some given) = bytes_eq given text

-- The duty is for the queue, or its dead letter would be.
-- Shown by: table_tests test_delivery_duties.rt: each_delivery_ends_in_time.
abbrev pub is_for_queue : List ℕ → DutyRow → Bool
is_for_queue queue row = bytes_eq row.duty.target.endpoint (queue_arn queue) || is_given_as (queue_arn queue) row.duty.target.dead_letter

-- A pending duty or a message names the queue.
-- Shown by: a_queue_with_messages_is_deleted.edit.
abbrev pub names_queue : List ℕ → Duties → Bool
names_queue queue s = list_any (λ p. is_for_queue queue p.1) s.pending || not (length (messages_of queue s.queues) == 0)
