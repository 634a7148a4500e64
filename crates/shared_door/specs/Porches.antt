-- A porch as contracts see it, and what its type keeps.
use Rattle.std.specs.Prelude.{◌≡◌, ℕ, ◌++◌, Bool, List, map, All, Option, Some}
use mathlib.Core.List.{IsPrefix}
use Rattle.bus_host.specs.Doors.{Lengthened}
use Rattle.shared_door.specs.declared.connection.Over.TheVariants.{Stopped}
use Rattle.shared_door.specs.declared.connection.Standing.{Standing}
use Rattle.shared_door.specs.declared.acts.Arrival.{Arrival}
use Rattle.shared_door.specs.declared.acts.Act.{Act}
use Rattle.shared_door.specs.Acts.{arrivals_of, visits_of, numbered_of, ended_of, IsFit, AreActs}
use Rattle.shared_door.specs.Visits.{Gave}
use Rattle.shared_door.specs.Shown.{Shown}

-- A porch: where it is, what it did, and the turns that its pass has seen.
-- Shown by: outside_tests test_shared_door.rt: a_porch_returns_what_its_door_returns.
pub record PorchState (I O T : Type 0) : Type 0 where
  pub standing : Standing
  pub acts : List (Act I O T)
  pub seen : List T

-- What a porch keeps: `Gave`, that each connection that ended fits, that the tickets given and taken back are those of its acts, the order of
-- these, and that it was stopped only by a history that says so.
-- Shown by: outside_tests test_shared_door.rt: two_threads_serve_four_connections.
pub record Keeps {I O T : Type 0} (most : Option ℕ) (start now : Shown I O) (fits : ℕ → I × O → I × O → Bool → List T → List T → Type 0)
    (stops : List T → Type 0) (p : PorchState I O T) (given : List (Arrival I O T)) (back : List (ℕ × Arrival I O T)) : Type 0 where
  pub gave : Gave most start now p.standing p.acts
  pub fit : All (IsFit fits p.seen) (visits_of p.acts)
  pub given_is : given ≡ arrivals_of p.acts
  pub tickets_are : back ≡ map numbered_of (visits_of p.acts)
  pub ended_is : Lengthened start.ended now.ended (map ended_of (visits_of p.acts))
  pub back_is : now.took_back ≡ start.took_back ++ map ended_of (visits_of p.acts)
  pub seen : List T
  pub order : AreActs fits p.acts seen
  pub reached : IsPrefix seen p.seen
  pub stopped : p.standing.over ≡ Some Stopped → stops p.seen
