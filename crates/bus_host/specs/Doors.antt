-- The connections of a door: those to come, those that it gave, and those that it ended.
use Rattle.std.specs.Prelude.{◌≡◌, Bool, true, List, [], ◌∷◌, ◌++◌, ⊤, Option, Some, None}
use Rattle.bus_host.specs.declared.door.Knock.{Knock}
use Rattle.bus_host.specs.declared.door.Knock.TheVariants.{Conn, Quiet, Closed, Failed, NoMemory}

-- `Lengthened` by what was known: if the entries of a list were known before, these came after them.
-- Shown by: a_connection_that_ended_is_forgotten.edit.
abbrev pub LongerBy : {A : Type 0} → Option (List A) → Option (List A) → List A → Type 0
LongerBy None new more = ⊤
LongerBy (Some old) None more = ⊥
LongerBy (Some old) (Some new) more = new ≡ old ++ more

-- If the list was known before, it is known now, and these entries came after it.
-- Shown by: a_connection_that_ended_is_forgotten.edit.
pub record Lengthened {A : Type 0} (old new : Option (List A)) (more : List A) : Type 0 where
  pub in_order : LongerBy old new more

-- `Shortened` by what was known: if the entries of a list were known before, it began with these.
-- Shown by: outside_tests test_bus_host.rt: a_door_in_memory_gives_what_it_plans.
abbrev pub ShorterBy : {A : Type 0} → Option (List A) → Option (List A) → List A → Type 0
ShorterBy None new taken = ⊤
ShorterBy (Some old) None taken = ⊥
ShorterBy (Some old) (Some new) taken = old ≡ taken ++ new

-- If the list was known before, it is known now, and these entries were its first.
-- Shown by: outside_tests test_bus_host.rt: a_door_in_memory_gives_what_it_plans.
pub record Shortened {A : Type 0} (old new : Option (List A)) (taken : List A) : Type 0 where
  pub in_order : ShorterBy old new taken

-- The connection that a call of `next` gave, as a list; empty if it gave none.
-- Shown by: outside_tests test_bus_host.rt: a_door_in_memory_gives_what_it_plans.
abbrev pub given_by : {I O : Type 0} → Knock I O → List (I × O)
given_by (Conn input output) = (input, output) ∷ []
given_by Quiet = []
given_by Closed = []
given_by Failed = []
given_by NoMemory = []

-- A door that says that no connection will come has none to come, if that is known.
-- Shown by: outside_tests test_bus_host.rt: a_door_in_memory_gives_what_it_plans.
abbrev pub HasNone : {A : Type 0} → Option (List A) → Type 0
HasNone None = ⊤
HasNone (Some ahead) = ahead ≡ []

-- Whether a door has said that no further connection will come, after a call of `next` with this result.
-- Shown by: outside_tests test_bus_host.rt: a_door_in_memory_gives_what_it_plans.
abbrev pub closed_after : {I O : Type 0} → Bool → Knock I O → Bool
closed_after closed (Conn input output) = closed
closed_after closed Quiet = closed
closed_after closed Closed = true
closed_after closed Failed = closed
closed_after closed NoMemory = closed
