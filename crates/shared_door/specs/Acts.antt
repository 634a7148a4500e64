-- What a porch did, in order.
use Rattle.std.specs.Prelude.{◌≡◌, ℕ, ◌+◌, Bool, List, [], ◌∷◌, ◌++◌, map, length, Option, Some, None}
use mathlib.Core.List.{IsPrefix}
use Rattle.bus_host.specs.declared.door.Ended.{Ended}
use Rattle.shared_door.specs.declared.connection.Over.{Over}
use Rattle.shared_door.specs.declared.acts.Arrival.{Arrival}
use Rattle.shared_door.specs.declared.acts.Visit.{Visit}
use Rattle.shared_door.specs.declared.acts.Act.{Act}
use Rattle.shared_door.specs.declared.acts.Act.TheVariants as act
use Rattle.shared_door.specs.Tickets.{IsPlace, IsNew}

module _ {I O T : Type 0} where
  -- The connections that came, in order.
  -- Shown by: outside_tests test_shared_door.rt: two_threads_serve_four_connections.
  abbrev pub arrivals_of : List (Act I O T) → List (Arrival I O T)
  arrivals_of [] = []
  arrivals_of (act.Gave a ∷ acts) = a ∷ arrivals_of acts
  arrivals_of (act.Ended v ∷ acts) = arrivals_of acts
  arrivals_of (act.Over o ∷ acts) = arrivals_of acts

  -- The connections that ended, in order.
  -- Shown by: outside_tests test_shared_door.rt: two_threads_serve_four_connections.
  abbrev pub visits_of : List (Act I O T) → List (Visit I O T)
  visits_of [] = []
  visits_of (act.Gave a ∷ acts) = visits_of acts
  visits_of (act.Ended v ∷ acts) = v ∷ visits_of acts
  visits_of (act.Over o ∷ acts) = visits_of acts

  -- Why the porch gives no more connections; none if it may give more.
  -- Shown by: outside_tests test_shared_door.rt: a_porch_returns_what_its_door_returns.
  abbrev pub over_in : List (Act I O T) → Option Over
  over_in [] = None
  over_in (act.Gave a ∷ acts) = over_in acts
  over_in (act.Ended v ∷ acts) = over_in acts
  over_in (act.Over o ∷ acts) = Some o

  -- The porch gives no more connections.
  -- Shown by: outside_tests test_shared_door.rt: a_porch_returns_what_its_door_returns.
  abbrev pub IsOver : List (Act I O T) → Type 0
  IsOver acts = (o : Over) × (over_in acts ≡ Some o)

  -- The streams of the connections that came, as they came, in order.
  -- Shown by: outside_tests test_shared_door.rt: two_threads_serve_four_connections.
  abbrev pub given_of : List (Act I O T) → List (I × O)
  given_of acts = map (λ a. a.came.value) (arrivals_of acts)

  -- The number of a connection that ended, and how it came.
  -- Shown by: outside_tests test_shared_door.rt: two_threads_serve_four_connections.
  abbrev pub numbered_of : Visit I O T → ℕ × Arrival I O T
  numbered_of v = (v.number, v.arrival.value)

  -- What the door shows of a connection that ended.
  -- Shown by: outside_tests test_shared_door.rt: two_threads_serve_four_connections.
  abbrev pub ended_of : Visit I O T → Ended I O
  ended_of v = record { input = v.went.value.0; output = v.went.value.1; cut = v.cut }

  -- A connection that ended fits a history with these turns.
  -- Shown by: outside_tests test_shared_door.rt: two_threads_serve_four_connections.
  abbrev pub IsFit : (ℕ → I × O → I × O → Bool → List T → List T → Type 0) → List T → Visit I O T → Type 0
  IsFit fits turns v = fits v.number v.arrival.value.came.value v.went.value v.cut v.before.items turns

  -- What a porch may do, act by act, with the turns that its pass had seen at the last one: each act's pass has seen what those before
  -- it had seen. A connection has the next number. One that ended came before, ended once, and fits what is then seen; when its session
  -- began, its pass had seen what the porch's had when it came. So it had seen all that each connection fits that ended before it came.
  -- After `Over` no connection comes.
  -- Shown by: the_porch_is_not_met.edit; ends_before_it_met.edit.
  pub data AreActs (fits : ℕ → I × O → I × O → Bool → List T → List T → Type 0) : List (Act I O T) → List T → Type 0 where
    begins : (seen : List T) → AreActs fits [] seen
    gives : (acts : List (Act I O T)) (seen : List T) (a : Arrival I O T) → AreActs fits acts seen → over_in acts ≡ None
        → a.number ≡ length (arrivals_of acts) + 1 → IsPrefix seen a.seen.items → AreActs fits (acts ++ act.Gave a ∷ []) a.seen.items
    ends : (acts : List (Act I O T)) (seen : List T) (v : Visit I O T) → AreActs fits acts seen
        → IsPlace (arrivals_of acts) (numbered_of v) → IsNew (map numbered_of (visits_of acts)) v.number
        → IsPrefix v.arrival.value.seen.items v.before.items → IsFit fits v.seen.items v → IsPrefix seen v.seen.items
        → AreActs fits (acts ++ act.Ended v ∷ []) v.seen.items
    closes : (acts : List (Act I O T)) (seen : List T) (o : Over) → AreActs fits acts seen → over_in acts ≡ None
        → AreActs fits (acts ++ act.Over o ∷ []) seen
