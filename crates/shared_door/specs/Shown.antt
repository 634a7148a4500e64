-- What a door shows of itself, and the names that a porch has before one is picked.
use Rattle.std.specs.Prelude.{◌≡◌, ℕ, Bool, false, List, [], ⊤, Option, Some, None}
use Rattle.atomic_table.specs.Seated.{TableId}
use Rattle.bus_host.specs.declared.door.Ended.{Ended}

-- The name of no table.
-- Shown by: outside_tests test_shared_door.rt: a_porch_returns_what_its_door_returns.
abbrev pub no_table : TableId
no_table = record { words = 0; slots = 0; views_name = 0; atom = 0; block = 0; offset = 0; slot_names = [] }

-- What a door shows: its count of faults; the connections to come, given and ended, if they are known; the connections that it gave and
-- took back; and whether it said that no further connection will come.
-- Shown by: outside_tests test_shared_door.rt: a_porch_returns_what_its_door_returns.
pub record Shown (I O : Type 0) : Type 0 where
  pub faults : ℕ
  pub ahead : Option (List (I × O))
  pub given : Option (List (I × O))
  pub ended : Option (List (Ended I O))
  pub gave : List (I × O)
  pub took_back : List (Ended I O)
  pub closed : Bool

-- A door that shows nothing, and has no fault.
-- Shown by: outside_tests test_shared_door.rt: a_porch_returns_what_its_door_returns.
abbrev pub nothing_shown : {I O : Type 0} → Shown I O
nothing_shown = record { faults = 0; ahead = None; given = None; ended = None; gave = []; took_back = []; closed = false }

module _ {D I O : Type 0} where
  -- What a door shows now.
  -- Shown by: outside_tests test_shared_door.rt: a_porch_returns_what_its_door_returns.
  abbrev pub shown_by : (D → ℕ) → (D → Option (List (I × O))) → (D → Option (List (I × O))) → (D → Option (List (Ended I O))) → (D → List (I × O))
      → (D → List (Ended I O)) → (D → Bool) → D → Shown I O
  shown_by faults ahead given ended gave took_back closed door = record {
    faults = faults door;
    ahead = ahead door;
    given = given door;
    ended = ended door;
    gave = gave door;
    took_back = took_back door;
    closed = closed door;
  }

-- If the connections to come were known, they were these.
-- Shown by: outside_tests test_shared_door.rt: a_porch_returns_what_its_door_returns.
abbrev pub HasGiven : {A : Type 0} → Option (List A) → List A → Type 0
HasGiven None given = ⊤
HasGiven (Some ahead) given = ahead ≡ given
