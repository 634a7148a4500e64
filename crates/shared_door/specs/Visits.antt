-- The connections that a porch gave, and those that ended.
use Rattle.std.specs.Prelude.{◌≡◌, ◌⊎◌, ℕ, ◌+◌, ◌≤◌, ◌++◌, Bool, true, List, map, length, All, Option, Some, None}
use Rattle.std.specs.List.{AllPairs}
use mathlib.Core.List.{IsPrefix}
use Rattle.router_disk.specs.Faults.{Rose}
use Rattle.bus_host.specs.Doors.{Lengthened, Shortened}
use Rattle.shared_door.specs.declared.acts.Act.{Act}
use Rattle.shared_door.specs.declared.connection.Standing.{Standing}
use Rattle.shared_door.specs.declared.connection.Over.TheVariants.{Closed, Failed}
use Rattle.shared_door.specs.Tickets.{IsPlace, HasOtherNumber}
use Rattle.shared_door.specs.Acts.{arrivals_of, visits_of, given_of, over_in, numbered_of, ended_of, IsFit, AreActs}
use Rattle.shared_door.specs.Shown.{Shown, HasGiven}

-- How many more connections may be given, once `gave` of at most `most` were given; none if there is no limit.
-- Shown by: outside_tests test_shared_door.rt: a_porch_gives_no_more_than_it_may.
abbrev pub IsLeft : Option ℕ → ℕ → Option ℕ → Type 0
IsLeft most gave None = most ≡ None
IsLeft most gave (Some left) = most ≡ Some (gave + left)

-- One fewer is left, if there is a limit.
-- Shown by: outside_tests test_shared_door.rt: a_porch_gives_no_more_than_it_may.
abbrev pub IsOneFewer : Option ℕ → Option ℕ → Type 0
IsOneFewer None new = new ≡ None
IsOneFewer (Some n) None = ⊥
IsOneFewer (Some n) (Some m) = n ≡ m + 1

module _ {I O : Type 0} where
  -- A door that showed `start` said that no connection will come, and gave those that were to come; or it gave all that it may.
  -- Shown by: done_at_once.edit.
  abbrev pub IsDone : Option ℕ → Shown I O → Shown I O → ℕ → List (I × O) → Type 0
  IsDone most start now gave given = ((now.closed ≡ true) × HasGiven start.ahead given) ⊎ (most ≡ Some gave)

module _ {I O T : Type 0} where
  -- What a door that showed `start` shows after these acts of a porch, which may give `most` connections; how many it gave, how many are
  -- left, and why it is over.
  -- Shown by: outside_tests test_shared_door.rt: a_porch_gives_no_more_than_it_may.
  pub record Gave (most : Option ℕ) (start now : Shown I O) (standing : Standing) (acts : List (Act I O T)) : Type 0 where
    pub count : length (arrivals_of acts) ≡ standing.gave
    pub left : IsLeft most standing.gave standing.left
    pub over_is : standing.over ≡ over_in acts
    pub given_is : Lengthened start.given now.given (given_of acts)
    pub ahead_is : Shortened start.ahead now.ahead (given_of acts)
    pub gave_is : now.gave ≡ start.gave ++ given_of acts
    pub later : start.faults ≤ now.faults
    pub failed : standing.over ≡ Some Failed → Rose start.faults now.faults
    pub closed : standing.over ≡ Some Closed → IsDone most start now standing.gave (given_of acts)

  -- Of the connections that came, these ended. Each fits a history with these turns, each has its own number, and the door shows them in
  -- order. The order of all acts is `AreActs`, by turns that the history has.
  -- Shown by: outside_tests test_shared_door.rt: two_threads_serve_four_connections.
  pub record Visited (start now : Shown I O) (fits : ℕ → I × O → I × O → Bool → List T → List T → Type 0) (turns : List T)
      (acts : List (Act I O T)) : Type 0 where
    pub fit : All (IsFit fits turns) (visits_of acts)
    pub places : All (IsPlace (arrivals_of acts)) (map numbered_of (visits_of acts))
    pub numbers : AllPairs HasOtherNumber (map numbered_of (visits_of acts))
    pub ended_is : Lengthened start.ended now.ended (map ended_of (visits_of acts))
    pub back_is : now.took_back ≡ start.took_back ++ map ended_of (visits_of acts)
    pub seen : List T
    pub order : AreActs fits acts seen
    pub reached : IsPrefix seen turns
