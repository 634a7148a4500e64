-- A step of a book: a reading of the clock and a turn; and why a book makes none.
use Rattle.std.specs.Prelude.{◌≡◌, ℕ, List, [], ◌∷◌, length, Option, Some, None, Result, Ok, Err, min}
use Rattle.step_run.specs.declared.fault.StepFault.{StepFault}
use Rattle.step_run.specs.declared.fault.StepFault.TheVariants.{NumberLimit, Broken, NoMemory}
use Rattle.step_run.specs.declared.fault.StepsFault.{StepsFault}
use Rattle.step_run.specs.declared.run.Next.{Next}
use Rattle.step_run.specs.declared.run.Next.TheVariants.{Made, Idle, Stopped}
use Rattle.step_run.specs.Act.{Act, ticks, looks, makes}
use Rattle.step_run.specs.Steps.{Steps}

-- The moment of a reading of the clock: at most the last moment, 250,000,000,000.
-- Shown by: proofs alone.
abbrev pub moment_of : ℕ → ℕ
moment_of reading = min reading 250000000000

-- Why no step was made: there was none to make, or the book refused it with this fault.
-- Shown by: a_fault_ends_as_idle.edit.
pub data Stop : Type 0 where
  none_left : Stop
  refused : StepFault → Stop

-- What a book does that refuses a step, by the fault. `NumberLimit`: a look that shows that the limit stops the step. `Broken`: a look that
-- shows that the book is broken, or the turn that breaks it, since this step could not be kept. `NoMemory`: a look; it has no cause that a
-- contract sees.
-- Shown by: a_fault_ends_as_idle.edit.
pub data IsRefusal {Placed State Other : Type 0} (breaks : Placed → Type 0) (full broken : State → Type 0)
    : List (Act Placed State Other) → StepFault → Type 0 where
  full_at : (s : State) → full s → IsRefusal breaks full broken (looks s ∷ []) NumberLimit
  broken_at : (s : State) → broken s → IsRefusal breaks full broken (looks s ∷ []) Broken
  broken_by : (p : Placed) → breaks p → IsRefusal breaks full broken (makes p ∷ []) Broken
  out_of_memory : (s : State) → IsRefusal breaks full broken (looks s ∷ []) NoMemory

-- What steps return that made these turns: their number, with the fault if one stopped them.
-- Shown by: a_fault_ends_as_idle.edit; a_fault_counts_no_step.edit.
abbrev pub returned : {Placed : Type 0} → List Placed → Option Stop → Result ℕ StepsFault
returned turns None = Ok (length turns)
returned turns (Some none_left) = Ok (length turns)
returned turns (Some (refused fault)) = Err (record { made = length turns; fault = fault })

-- A book says of a turn that it makes a step at a moment, or breaks the book, since a step at the moment could not be kept; and of a state
-- that there is no step to make at a moment, that its number limit stops a step, or that the book is broken and there is a step to make.
module _ {Placed State Other : Type 0} (steps breaks : Placed → ℕ → Type 0) (idle full broken : State → ℕ → Type 0) where
  -- One step: a reading of the clock, and the turn at its moment.
  -- Shown by: one_reading_for_all_steps.edit.
  pub data IsStep : List (Act Placed State Other) → Placed → Type 0 where
    stepped : (reading : ℕ) (p : Placed) → steps p (moment_of reading) → IsStep (ticks reading ∷ makes p ∷ []) p

  -- A reading, and a look that finds no step to make at its moment, or what the book does that refuses the step.
  -- Shown by: stops_before_the_budget.edit; a_fault_ends_as_idle.edit.
  pub data IsStop : List (Act Placed State Other) → Stop → Type 0 where
    idle_at : (reading : ℕ) (s : State) → idle s (moment_of reading) → IsStop (ticks reading ∷ looks s ∷ []) none_left
    refused_at : (reading : ℕ) (acts : List (Act Placed State Other)) (fault : StepFault)
        → IsRefusal (λ p. breaks p (moment_of reading)) (λ s. full s (moment_of reading)) (λ s. broken s (moment_of reading)) acts fault
        → IsStop (ticks reading ∷ acts) (refused fault)

  -- Steps of a book within a budget, and what they return.
  -- Shown by: stops_before_the_budget.edit; a_fault_counts_no_step.edit.
  pub record Ran (budget : ℕ) (acts : List (Act Placed State Other)) (result : Result ℕ StepsFault) : Type 0 where
    pub turns : List Placed
    pub stop : Option Stop
    pub steps_made : Steps IsStep IsStop budget acts turns stop
    pub is : result ≡ returned turns stop

  -- what one look for a step did, by what came of it
  abbrev pub IsNext : List (Act Placed State Other) → Next → Type 0
  IsNext acts Made = (p : Placed) × IsStep acts p
  IsNext acts Idle = IsStop acts none_left
  IsNext acts (Stopped fault) = IsStop acts (refused fault)
