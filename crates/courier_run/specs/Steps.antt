-- Delivery steps: each is a reading, a claim, at most one send, and a record.
use Rattle.std.specs.Prelude.{◌≡◌, ◌<◌, ℕ, List, [], ◌∷◌, ◌++◌}
use Rattle.delivery_duties.specs.declared.outcome.Outcome.{Outcome}
use Rattle.delivery_duties.specs.declared.outcome.Fate.{Fate}
use Rattle.courier_run.specs.declared.attempt.Ended.{Ended}
use Rattle.courier_run.specs.declared.attempt.Ended.TheVariants.{Recorded, Stopped}
use Rattle.courier_run.specs.declared.stepped.Stop.{Stop}
use Rattle.courier_run.specs.declared.stepped.Stop.TheVariants.{Spent, Idle, Full, Broken, NoMemory}
use Rattle.courier_run.specs.declared.turned.Turned.{Turned}
use Rattle.courier_run.specs.Claim.{Claim, NeedsSend, FitsClaim, moment_of}
use Rattle.courier_run.specs.Turned.{no_attempt, with_fate}
use Rattle.courier_run.specs.Act.{Act, ticks, looks, makes, tries}

-- A recorded attempt: its claim, the outcome that it had, and the fate that the record gave the duty.
-- Shown by: outside_tests test_courier_run.rt: an_outcome_is_what_the_link_answered.
pub record Attempt : Type 0 where
  pub claim : Claim
  pub outcome : Outcome
  pub fate : Fate

-- Why a claim is put back: the link was out of memory before it sent anything; the book was at its number limit; or the book is broken, and
-- keeps no record.
-- Shown by: put_back_after_a_send.edit; outside_tests test_courier_run.rt: a_refused_record_puts_its_claim_back.
pub data Why : Type 0 where
  unsent : Why
  limited : Why
  unkept : Why

-- A book says of a turn that it claims a duty at a moment, records an attempt, puts a claim back, or breaks the book, since the record of an
-- attempt could not be kept; and of a state that no duty is due at a moment, that its number limit stops a claim, or that it is broken and a
-- duty is due.
module _ {Placed State : Type 0} (claims : Placed → Claim → ℕ → Type 0) (records : Placed → Attempt → Type 0)
    (puts_back : Placed → Claim → Why → Type 0) (breaks : Placed → Claim → Outcome → Type 0) (idle full broken : State → ℕ → Type 0) where
  -- One step: a reading of the clock, the claim at its moment, an attempt, and its record.
  -- Shown by: outside_tests test_courier_run.rt: a_turn_makes_attempts_within_its_budget.
  pub data IsStep : List (Act Placed State) → Fate → Type 0 where
    attempted : (reading : ℕ) (p q : Placed) (c : Claim) (outcome : Outcome) (fate : Fate) → claims p c (moment_of reading) → FitsClaim c outcome
        → records q (record { claim = c; outcome = outcome; fate = fate })
        → IsStep (ticks reading ∷ makes p ∷ tries c outcome ∷ makes q ∷ []) fate

  -- Some steps, and their numbers.
  -- Shown by: outside_tests test_courier_run.rt: a_turn_makes_attempts_within_its_budget.
  pub data Stepping : List (Act Placed State) → Turned → Type 0 where
    none : Stepping [] no_attempt
    one_more : (acts step : List (Act Placed State)) (turned : Turned) (fate : Fate) → Stepping acts turned → IsStep step fate
        → Stepping (acts ++ step) (with_fate turned fate)

  -- An attempt of a claim with this outcome that has no record. Its claim is put back: at the number limit; since the book is broken; or
  -- since this record could not be kept, which breaks the book first.
  -- Shown by: outside_tests test_courier_run.rt: a_refused_record_puts_its_claim_back.
  pub data IsUnrecorded (c : Claim) (outcome : Outcome) : List (Act Placed State) → Stop → Type 0 where
    limited_by : (q : Placed) → puts_back q c limited → IsUnrecorded c outcome (makes q ∷ []) Full
    broken_before : (q : Placed) → puts_back q c unkept → IsUnrecorded c outcome (makes q ∷ []) Broken
    broken_by : (m q : Placed) → breaks m c outcome → puts_back q c unkept → IsUnrecorded c outcome (makes m ∷ makes q ∷ []) Broken

  -- What stops steps before their budget: no duty is due; the number limit; a broken book; out of memory for the claim; the same for its
  -- send, of which nothing was sent; and no record after the attempt. The last two put their claim back.
  -- Shown by: stops_before_the_budget.edit; a_fault_ends_as_idle.edit; put_back_after_a_send.edit.
  pub data IsStop : List (Act Placed State) → Stop → Type 0 where
    idle_at : (reading : ℕ) (s : State) → idle s (moment_of reading) → IsStop (ticks reading ∷ looks s ∷ []) Idle
    full_at : (reading : ℕ) (s : State) → full s (moment_of reading) → IsStop (ticks reading ∷ looks s ∷ []) Full
    broken_at : (reading : ℕ) (s : State) → broken s (moment_of reading) → IsStop (ticks reading ∷ looks s ∷ []) Broken
    out_of_memory : (reading : ℕ) (s : State) → IsStop (ticks reading ∷ looks s ∷ []) NoMemory
    unsent_at : (reading : ℕ) (p q : Placed) (c : Claim) → claims p c (moment_of reading) → NeedsSend c → puts_back q c unsent
        → IsStop (ticks reading ∷ makes p ∷ makes q ∷ []) NoMemory
    unrecorded : (reading : ℕ) (p : Placed) (c : Claim) (outcome : Outcome) (ends : List (Act Placed State)) (stop : Stop)
        → claims p c (moment_of reading) → FitsClaim c outcome → IsUnrecorded c outcome ends stop
        → IsStop (ticks reading ∷ makes p ∷ tries c outcome ∷ ends) stop

  -- Delivery steps within a budget: as many as it allows, or fewer and then what stops them.
  -- Shown by: stops_before_the_budget.edit; a_fault_ends_as_idle.edit.
  pub data Steps (budget : ℕ) : List (Act Placed State) → Turned → Stop → Type 0 where
    spent : (acts : List (Act Placed State)) (turned : Turned) → Stepping acts turned → turned.attempts ≡ budget → Steps budget acts turned Spent
    stopped : (acts last : List (Act Placed State)) (turned : Turned) (stop : Stop) → Stepping acts turned → turned.attempts < budget
        → IsStop last stop → Steps budget (acts ++ last) turned stop

  -- what one attempt did, by how it ended
  abbrev pub IsAttempt : List (Act Placed State) → Ended → Type 0
  IsAttempt acts (Recorded fate) = IsStep acts fate
  IsAttempt acts (Stopped stop) = IsStop acts stop
