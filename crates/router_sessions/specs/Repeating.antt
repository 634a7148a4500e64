-- Replay steps through a pass.
use Rattle.std.specs.Prelude.{◌≡◌, ℕ, List, [], ◌++◌, map, Result}
use Rattle.std.proofs.Common.{sym, subst}
use Rattle.std.proofs.lemmas.List.{map-append}
use Rattle.courier_run.specs.Act.{readings_in}
use Rattle.step_run.specs.declared.fault.StepsFault.{StepsFault}
use Rattle.router_history.specs.declared.book.Seat.{Seat}
use Rattle.router_history.specs.History.{Turn}
use Rattle.router_history.specs.Acts.{Act, StepAct, act_of, Repeating, Makes}
use Rattle.router_sessions.specs.Desk.{Known}
use Rattle.router_sessions.specs.Delivery.{Did, did_none, did_joined}

-- Replay steps from a seat, within a budget: their acts, what these did to the history, and the readings of the clock.
-- Shown by: replays; one_reading_for_all_steps.edit.
pub record RepeatsFrom (seat : Seat) (budget : ℕ) (old new : List Turn) (gave gave_new : List ℕ) (result : Result ℕ StepsFault) : Type 0 where
  pub acts : List Act
  pub steps : Repeating budget acts result
  pub makes : Makes seat acts old new
  pub readings : gave_new ≡ gave ++ readings_in acts

-- for private clauses: these acts of replay steps are what a pass did beside all that was done before
abbrev pub DidSteps : {V : Type 0} → Seat → Known V → Known V → List StepAct → Type 0
DidSteps seat old new acts = Did seat old new (map act_of acts)

pub steps_none : {V : Type 0} (seat : Seat) (known : Known V) → DidSteps seat known known []
steps_none seat known = did_none seat known

pub steps_joined : {V : Type 0} (seat : Seat) (a b c : Known V) (first second : List StepAct) → DidSteps seat a b first → DidSteps seat b c second
    → DidSteps seat a c (first ++ second)
steps_joined seat a b c first second one two = subst (λ (acts : List Act). Did seat a c acts) (sym (map-append act_of first second))
    (did_joined seat a b c (map act_of first) (map act_of second) one two)
