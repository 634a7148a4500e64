-- Conditions in an order, and the first that fails.
use Rattle.std.specs.Prelude.{◌≡◌, ◌⊎◌, Bool, true, false, List, [], ◌∷◌, Option, Some, None}

-- The fault, unless the condition holds.
abbrev pub unless : {F : Type 0} → Bool → F → Option F
unless true fault = None
unless false fault = Some fault

-- The first fault that is there.
abbrev pub first_fault : {F : Type 0} → List (Option F) → Option F
first_fault [] = None
first_fault (None ∷ rest) = first_fault rest
first_fault (Some fault ∷ rest) = Some fault

-- A condition and the faults that are there if it fails. For a condition that no truth value decides, such as whether a text spells JSON.
pub record Check (F : Type 0) : Type 1 where
  pub holds : Type 0
  pub refuses : F → Type 0

-- The condition, with this one fault.
abbrev pub else_fault : {F : Type 0} → Type 0 → F → Check F
else_fault condition fault = record { holds = condition; refuses = λ found. (found ≡ fault) × (¬ condition) }

-- Each condition holds.
-- Shown by: event_tests test_event_shape.rt: the_first_fault_is_reported, faults_have_their_order.
abbrev pub AllHold : {F : Type 0} → List (Check F) → Type 0
AllHold [] = Unit {0}
AllHold (c ∷ rest) = c.holds × AllHold rest

-- The first condition that fails has this fault.
-- Shown by: event_tests test_event_shape.rt: the_first_fault_is_reported, faults_have_their_order.
abbrev pub IsFirst : {F : Type 0} → List (Check F) → F → Type 0
IsFirst [] fault = ⊥
IsFirst (c ∷ rest) fault = c.refuses fault ⊎ (c.holds × IsFirst rest fault)
