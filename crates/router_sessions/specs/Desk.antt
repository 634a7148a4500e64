-- What a pass knows of the history.
use Rattle.std.specs.Prelude.{◌≡◌, ℕ, List, [], ◌++◌, map, Option, None}
use Rattle.atomic_table.specs.Seated.{TableId}
use Rattle.atomic_table.specs.declared.shared.Seat.{Seat as PassSeat}
use Rattle.turn_book.specs.declared.view.View.{View}
use Rattle.turn_book.specs.Passes.{view}
use Rattle.router_history.specs.declared.book.Seat.{Seat}
use Rattle.router_history.specs.declared.history.Turn.{Turn}
use Rattle.router_history.specs.History as history
use Rattle.router_history.specs.Book.{turn_of}

-- What is known of a pass: its seat at the table of the hall of a value.
-- Shown by: session_tests tests.rt: two_passes_go_on_from_what_the_other_did.
abbrev pub Known : Type 0 → Type 0
Known V = PassSeat (Option V) (View Turn)

-- The turns that a pass has seen, oldest first.
-- Shown by: as Known.
abbrev pub seen_by : {V : Type 0} → Known V → List Turn
seen_by known = (view known).seen

-- The same as contracts see them.
-- Shown by: as Known.
abbrev pub turns_seen : {V : Type 0} → Known V → List history.Turn
turns_seen known = map turn_of (seen_by known)

-- The number of a pass.
-- Shown by: a_turn_names_another_pass.edit.
abbrev pub number_of : {V : Type 0} → Known V → ℕ
number_of known = (view known).number

-- The seat of a pass, for turns that name a connection.
-- Shown by: a_quiet_step_names_a_connection.edit.
abbrev pub seat_of : {V : Type 0} → Option ℕ → Known V → Seat
seat_of connection known = record { pass = number_of known; connection = connection }

-- the names of no hall and of no seat
abbrev pub no_hall : TableId
no_hall = record { words = 0; slots = 0; views_name = 0; atom = 0; block = 0; offset = 0; slot_names = [] }

abbrev pub no_seat : Seat
no_seat = record { pass = 0; connection = None }

-- A pass has seen all turns that it had seen, in order, and perhaps more after them.
-- Shown by: as Known.
abbrev pub SeesMore : {V : Type 0} → Known V → Known V → Type 0
SeesMore old new = (more : List Turn) × (seen_by new ≡ seen_by old ++ more)
