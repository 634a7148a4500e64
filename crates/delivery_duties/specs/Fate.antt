-- The state of each duty, as `Duties` show it, and the attempts that are recorded of it. Its state is the fold of these attempts.
use Rattle.std.specs.Prelude.{◌≡◌, ℕ, ◌<◌, ◌==◌, if◌then◌else◌, false, List, [], ◌∷◌, ◌++◌, Option, Some, None}
use Rattle.std.specs.Option.{option_map}
use Rattle.delivery_duties.specs.declared.duty.NewDuty.{NewDuty}
use Rattle.delivery_duties.specs.declared.duty.DutyRow.{DutyRow}
use Rattle.delivery_duties.specs.declared.outcome.Outcome.{Outcome}
use Rattle.delivery_duties.specs.declared.outcome.Fate.{Fate}
use Rattle.delivery_duties.specs.declared.outcome.SettledDuty.{SettledDuty}
use Rattle.delivery_duties.specs.Retry.{Attempt, State, waits, ended_with, fate_of}
use Rattle.delivery_duties.specs.Duties.{Duties, pending_row, attempt_of, added_one, settled, claimed, unclaimed, with_new_queue, forgotten, with_deleted}

-- The fate of the duty of this number, if it ended.
-- Shown by: law a_duty_begins_in_its_first_state.
abbrev pub ended_fate : ℕ → List SettledDuty → Option Fate
ended_fate number [] = None
ended_fate number (d ∷ ds) = if d.number == number then Some d.fate else ended_fate number ds

-- The row as if no attempt were under way.
-- Shown by: law an_attempt_changes_the_state_of_its_duty_alone.
abbrev pub unmarked : DutyRow → DutyRow
unmarked row = record row { claimed = false }

-- the state of a duty that has this row if it is pending, and this fate if it ended; none if it is neither
abbrev pub shown_state : Option DutyRow → Option Fate → Option State
shown_state (Some row) fate = Some (waits (unmarked row))
shown_state None (Some fate) = Some (ended_with fate)
shown_state None None = None

-- The `State` of the duty of this number: it waits, with its row as if it were not claimed, or it ended with its fate. None if no duty has
-- the number.
-- Shown by: law an_attempt_changes_the_state_of_its_duty_alone.
abbrev pub state_in : ℕ → Duties → Option State
state_in number s = shown_state (pending_row number s) (ended_fate number s.ended)

-- The fate of the duty of this number; none if no duty has the number.
-- Shown by: law a_fate_is_that_of_the_recorded_attempts.
abbrev pub fate_in : ℕ → Duties → Option Fate
fate_in number s = option_map fate_of (state_in number s)

-- One change of duties or queues: a duty is added, claimed, released or settled, a queue is created or deleted, or messages are deleted.
-- Shown by: law no_other_act_changes_a_state.
pub data Act : Type 0 where
  adds : (duty : NewDuty) (moment : ℕ) → Act
  claims : (number : ℕ) → Act
  releases : (number : ℕ) → Act
  settles : (number moment : ℕ) (outcome : Outcome) → Act
  creates_queue : (name : List ℕ) → Act
  forgets_queue : (name : List ℕ) → Act
  deletes_messages : (queue : List ℕ) (through : ℕ) → Act

-- The duties after an act.
-- Shown by: law no_other_act_changes_a_state.
abbrev pub after_act : Act → Duties → Duties
after_act (adds duty moment) s = added_one duty moment s
after_act (claims number) s = claimed number s
after_act (releases number) s = unclaimed number s
after_act (settles number moment outcome) s = settled number moment outcome s
after_act (creates_queue name) s = with_new_queue name s
after_act (forgets_queue name) s = forgotten name s
after_act (deletes_messages queue through) s = with_deleted queue through s

-- The duties after acts, in their order.
-- Shown by: law a_fate_is_that_of_the_recorded_attempts.
abbrev pub after_acts : List Act → Duties → Duties
after_acts [] s = s
after_acts (act ∷ acts) s = after_acts acts (after_act act s)

-- the attempt of the duty of this row, if there is one
abbrev pub attempts_of : Option DutyRow → ℕ → Outcome → Duties → List Attempt
attempts_of None moment outcome s = []
attempts_of (Some row) moment outcome s = attempt_of row moment outcome s ∷ []

-- The attempt of the duty of this number that an act records, if it records one.
-- Shown by: law a_fate_is_that_of_the_recorded_attempts.
abbrev pub attempts_by : ℕ → Act → Duties → List Attempt
attempts_by number (settles n moment outcome) s = if n == number then attempts_of (pending_row n s) moment outcome s else []
attempts_by number _ s = []

-- The attempts of the duty of this number that acts record, in their order.
-- Shown by: law a_fate_is_that_of_the_recorded_attempts.
abbrev pub attempts_in : ℕ → List Act → Duties → List Attempt
attempts_in number [] s = []
attempts_in number (act ∷ acts) s = attempts_by number act s ++ attempts_in number acts (after_act act s)

-- Each pending duty has its own number and has not ended, and no duty has a number above the number of duties made.
-- Shown by: law a_fate_is_that_of_the_recorded_attempts.
pub record AreNumbered (s : Duties) : Type 0 where
  pub named : (n : ℕ) (row : DutyRow) → pending_row n s ≡ Some row → row.number ≡ n
  pub apart : (n : ℕ) (row : DutyRow) → pending_row n s ≡ Some row → ended_fate n s.ended ≡ None
  pub free : (n : ℕ) → s.created < n → state_in n s ≡ None
