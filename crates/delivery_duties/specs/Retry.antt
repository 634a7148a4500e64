-- What an attempt makes of a pending duty. A duty is the delivery of one event to one target. This project's own rules.
use Rattle.std.specs.Prelude.{ℕ, ◌+◌, ◌-◌, ◌^◌, min, nat_le, nat_lt, ◌==◌, ◌&&◌, ◌||◌, Bool, true, false, if◌then◌else◌, List, [], ◌∷◌, Option, Some, None}
use Rattle.shared_text.specs.declared.row.TargetRow.{TargetRow}
use Rattle.delivery_duties.specs.declared.duty.NewDuty.{NewDuty}
use Rattle.delivery_duties.specs.declared.duty.DutyRow.{DutyRow}
use Rattle.delivery_duties.specs.declared.outcome.Outcome.{Outcome}
use Rattle.delivery_duties.specs.declared.outcome.Outcome.TheVariants.{Accepted, Code, NoAnswer, NoQueue, TooOld}
use Rattle.delivery_duties.specs.declared.outcome.Fate.{Fate}
use Rattle.delivery_duties.specs.declared.outcome.Fate.TheVariants.{Pending, Delivered, DeadLettered, Dropped}
use Rattle.delivery_queues.specs.declared.failure.Failure.{Failure}
use Rattle.delivery_queues.specs.declared.failure.Cause.{Cause}
use Rattle.delivery_queues.specs.declared.failure.Cause.TheVariants.{Answered, Unanswered, NotAttempted, TextTooLong, QueueMissing}
use Rattle.delivery_queues.specs.declared.failure.RetryLimit.TheVariants.{MaximumAttempts, MaximumAge}
use Rattle.delivery_duties.specs.declared.verdict.Verdict.{Verdict}
use Rattle.delivery_duties.specs.declared.verdict.Verdict.TheVariants.{Deliver, Retry, Fail}

-- An attempt that was answered with 409, 429 or 500 to 599 is repeated.
-- Shown by: a_404_is_retried.edit.
abbrev pub is_retried : ℕ → Bool
is_retried code = (code == 409) || ((code == 429) || (nat_le 500 code && nat_le code 599))

-- The seconds from a failed attempt to the next one, after this number of earlier failures: 1, 2, 4 and so on, at most 600.
-- Shown by: back_off_without_a_cap.edit.
abbrev pub delay : ℕ → ℕ
delay failures = min (2 ^ failures) 600

-- the duty ends after its last attempt with this cause, and no limit of its retries ended it
abbrev pub ended : DutyRow → Cause → Verdict
ended row cause = Fail (record { cause = cause; exhausted = None; retries = row.attempts })

-- An attempt at the moment failed, and may be repeated. The duty ends if its maximum number of retries was made, or if the next attempt
-- would be due when the event is too old. Else it is due again after the delay.
-- Shown by: ended_at_its_age.edit; one_attempt_too_many.edit.
abbrev pub repeated : DutyRow → ℕ → Cause → Verdict
repeated row moment cause =
    if nat_le row.duty.target.attempts row.attempts then Fail (record { cause = cause; exhausted = Some MaximumAttempts; retries = row.attempts })
    else if nat_lt (row.accepted + row.duty.target.age) (moment + delay row.attempts)
    then Fail (record { cause = cause; exhausted = Some MaximumAge; retries = row.attempts })
    else Retry (moment + delay row.attempts)

-- how the last attempt failed, if there was one
abbrev pub last_cause : Option Outcome → Cause
last_cause None = NotAttempted
last_cause (Some Accepted) = NotAttempted
last_cause (Some (Code code)) = Answered code
last_cause (Some NoAnswer) = Unanswered
last_cause (Some NoQueue) = QueueMissing
last_cause (Some TooOld) = NotAttempted

-- What an attempt at the moment, which ended with the outcome, makes of a pending duty: delivered, due again, or ended without a delivery,
-- with the reason.
-- Shown by: the_last_code_is_forgotten.edit.
abbrev pub verdict_of : DutyRow → ℕ → Outcome → Verdict
verdict_of row moment Accepted = Deliver
verdict_of row moment (Code code) = if is_retried code then repeated row moment (Answered code) else ended row (Answered code)
verdict_of row moment NoAnswer = repeated row moment Unanswered
verdict_of row moment NoQueue = ended row QueueMissing
verdict_of row moment TooOld = Fail (record { cause = last_cause row.last; exhausted = Some MaximumAge; retries = row.attempts - 1 })

-- a duty ends when it is made, because its text is too long
abbrev pub too_long : Failure
too_long = record { cause = TextTooLong; exhausted = None; retries = 0 }

-- The row of a new duty: its number, due at the moment at which it is made, no attempts, not claimed.
-- Shown by: table_tests test_delivery_duties.rt: each_delivery_ends_in_time.
abbrev pub begun : ℕ → ℕ → NewDuty → DutyRow
begun number moment duty = record {
  number = number;
  duty = duty;
  accepted = moment;
  due = moment;
  attempts = 0;
  last = None;
  claimed = false;
}

-- The row after one more failed attempt: due again at a moment, not claimed.
-- Shown by: table_tests test_delivery_duties.rt: each_delivery_ends_in_time.
abbrev pub retried : ℕ → Outcome → DutyRow → DutyRow
retried due outcome row = record row { due = due; attempts = row.attempts + 1; last = Some outcome; claimed = false }

-- The ARN of a target's dead-letter queue, if one is named and it exists.
-- Shown by: table_tests test_delivery_duties.rt: each_delivery_ends_in_time.
abbrev pub dead_letter_queue : TargetRow → Bool → Option (List ℕ)
dead_letter_queue target false = None
dead_letter_queue target true = target.dead_letter

-- A duty that ends without a delivery is dead-lettered if it has a dead-letter queue, else dropped.
-- Shown by: dropped_despite_dead_letter_queue.edit.
abbrev pub failed_fate : Option (List ℕ) → Fate
failed_fate None = Dropped
failed_fate (Some arn) = DeadLettered

-- An attempt as it is recorded: its moment, its outcome, and whether the dead-letter queue existed then.
-- Shown by: table_tests test_delivery_duties.rt: each_delivery_ends_in_time.
pub record Attempt : Type 0 where
  pub moment : ℕ
  pub outcome : Outcome
  pub has_dead_letter_queue : Bool

-- What recorded attempts made of a duty: it waits, with its row (`waits`), or it ended with a fate (`ended_with`).
-- Shown by: table_tests test_delivery_duties.rt: each_delivery_ends_in_time.
pub data State : Type 0 where
  waits : DutyRow → State
  ended_with : Fate → State

-- the state that a verdict leads to
abbrev pub state_by : DutyRow → Attempt → Verdict → State
state_by row attempt Deliver = ended_with Delivered
state_by row attempt (Retry due) = waits (retried due attempt.outcome row)
state_by row attempt (Fail failure) = ended_with (failed_fate (dead_letter_queue row.duty.target attempt.has_dead_letter_queue))

-- The state after one more attempt; a duty that ended stays as it is.
-- Shown by: table_tests test_delivery_duties.rt: each_delivery_ends_in_time.
abbrev pub after_attempt : State → Attempt → State
after_attempt (waits row) attempt = state_by row attempt (verdict_of row attempt.moment attempt.outcome)
after_attempt (ended_with fate) attempt = ended_with fate

-- The state after these attempts, in their order.
-- Shown by: law a_fate_is_that_of_the_recorded_attempts.
abbrev pub after_attempts : State → List Attempt → State
after_attempts state [] = state
after_attempts state (attempt ∷ attempts) = after_attempts (after_attempt state attempt) attempts

-- The state of a duty when it is made: it waits, but one whose text is too long has ended. The truth value says whether its dead-letter
-- queue exists then.
-- Shown by: law a_duty_begins_in_its_first_state.
abbrev pub first_state : ℕ → ℕ → NewDuty → Bool → State
first_state number moment duty has_dead_letter_queue =
    if duty.too_long then ended_with (failed_fate (dead_letter_queue duty.target has_dead_letter_queue))
    else waits (begun number moment duty)

-- The state of a duty after its recorded attempts: the fold of `after_attempt` from `first_state`. The truth value says whether its
-- dead-letter queue existed when it was made.
-- Shown by: law a_fate_is_that_of_the_recorded_attempts.
abbrev pub state_of : ℕ → ℕ → NewDuty → Bool → List Attempt → State
state_of number moment duty has_dead_letter_queue attempts = after_attempts (first_state number moment duty has_dead_letter_queue) attempts

-- Pending while the duty waits, else the fate with which it ended.
-- Shown by: law a_fate_is_that_of_the_recorded_attempts.
abbrev pub fate_of : State → Fate
fate_of (waits row) = Pending
fate_of (ended_with fate) = fate
