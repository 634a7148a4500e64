-- Steps of one kind within a budget, whatever their acts are.
use Rattle.std.specs.Prelude.{◌≡◌, ◌<◌, ℕ, List, [], ◌∷◌, ◌++◌, length, Option, Some, None}

-- Of acts it is said that they are one step, which made this; or that no step was made, for this reason.
module _ {Act Made Stop : Type 0} (IsStep : List Act → Made → Type 0) (IsStop : List Act → Stop → Type 0) where
  -- Steps one after the other, and what each made, in order.
  -- Shown by: stops_before_the_budget.edit.
  pub data Stepping : List Act → List Made → Type 0 where
    none : Stepping [] []
    one_more : (acts step : List Act) (made : List Made) (new : Made) → Stepping acts made → IsStep step new → Stepping (acts ++ step) (made ++ new ∷ [])

  -- Steps within a budget: as many as it allows; or fewer, and then what stopped them.
  -- Shown by: stops_before_the_budget.edit; a_fault_ends_as_idle.edit.
  pub data Steps (budget : ℕ) : List Act → List Made → Option Stop → Type 0 where
    spent : (acts : List Act) (made : List Made) → Stepping acts made → length made ≡ budget → Steps budget acts made None
    stopped : (acts last : List Act) (made : List Made) (stop : Stop) → Stepping acts made → length made < budget → IsStop last stop
        → Steps budget (acts ++ last) made (Some stop)
