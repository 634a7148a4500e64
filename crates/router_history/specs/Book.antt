-- The views of the router's guarded state in contracts, and what holds of it.
use Rattle.std.specs.Prelude.{◌≡◌, ℕ, ◌++◌, ◌∷◌, List, [], map, flat_map, Option, Some, None, All}
use Rattle.std.specs.Option.{option_map}
use Rattle.router_disk.specs.declared.disk_call.DiskCall.{DiskCall}
use Rattle.duty_journal.specs.Journal.{batches_in}
use Rattle.router_core.specs.Tables.{first_tables}
use Rattle.router_requests.specs.Batch.{Batch}
use Rattle.router_requests.specs.View.{request_of, batch_of}
use Rattle.courier_run.specs.Steps as steps
use Rattle.courier_run.specs.Claim.{Claim}
use Rattle.router_history.specs.declared.opened_disk.OpenedDisk.{OpenedDisk}
use Rattle.router_history.specs.declared.history.Ask.{Ask}
use Rattle.router_history.specs.declared.history.Ask.TheVariants.{Opens, Asked, Claims, Records, PutsBack, Repeats, Breaks}
use Rattle.router_history.specs.declared.history.Why.{Why}
use Rattle.router_history.specs.declared.history.Why.TheVariants.{Unsent, Limited, Unkept}
use Rattle.router_history.specs.declared.history.Written.{Written}
use Rattle.router_history.specs.declared.history.Written.TheVariants.{Nothing, Changes}
use Rattle.router_history.specs.declared.history.Turn.{Turn}
use Rattle.router_history.specs.declared.history.History.{History}
use Rattle.router_history.specs.declared.book.Machine.{Machine}
use Rattle.router_history.specs.declared.book.Seat.{Seat}
use Rattle.router_history.specs.Firsts.{firsts}
use Rattle.router_history.specs.Held.{held_claim}
use Rattle.router_history.specs.History as view
use Rattle.router_history.specs.History.{state_of, IsLegal, claims_of}

-- Why a claim was put back.
-- Shown by: put_back_without_a_reason.edit.
abbrev pub why_of : Why → steps.Why
why_of Unsent = steps.unsent
why_of Limited = steps.limited
why_of Unkept = steps.unkept

-- A disk as it is opened now, by what it shows.
-- Shown by: proofs alone.
abbrev pub as_opened : {D : Type 0} → (D → List DiskCall) → (D → ℕ) → D → view.OpenedDisk
as_opened calls faults disk = record { faults = faults disk; calls = calls disk }

-- What contracts see of the code's `OpenedDisk`.
-- Shown by: proofs alone.
abbrev pub opened_of : OpenedDisk → view.OpenedDisk
opened_of disk = record { faults = disk.faults; calls = disk.calls.items }

-- What contracts see of the code's `Ask`, with the views of its request or its claim.
-- Shown by: session_tests tests.rt: an_event_has_the_reading_of_its_own_request.
abbrev pub ask_of : Ask → view.Ask
ask_of (Opens found disk) = view.opens first_tables (batches_in (flat_map (λ pair. pair.0) found.items)) (option_map opened_of disk)
ask_of (Asked request) = view.asked (request_of request.value)
ask_of (Claims held) = view.claims (held_claim held.value)
ask_of (Records held outcome fate) = view.records (record { claim = held_claim held.value; outcome = outcome; fate = fate })
ask_of (PutsBack held why) = view.puts_back (held_claim held.value) (why_of why)
ask_of (Repeats reading) = view.repeats reading
ask_of (Breaks bs) = view.breaks (map batch_of (firsts bs.items))

-- The batch that a turn wrote, if any.
-- Shown by: the_batch_is_not_entered.edit.
abbrev pub written_of : Written → Option Batch
written_of Nothing = None
written_of (Changes batch) = Some (batch_of batch.value)

-- What contracts see of the code's `Turn`, with the views of its ask and its batch.
-- Shown by: a_turn_names_another_pass.edit; a_quiet_step_names_a_connection.edit.
abbrev pub turn_of : Turn → view.Turn
turn_of turn = record { pass = turn.pass; connection = turn.connection; ask = ask_of turn.ask; k = turn.k; batch = written_of turn.written }

-- The turns of the code's `History` as they were recorded, oldest first.
-- Shown by: a_step_is_recorded_twice.edit.
abbrev pub recorded_in : History → List Turn
recorded_in history = firsts history.log.items

-- The turns of the code's `History` as contracts see them, oldest first.
-- Shown by: the_history_lacks_a_turn_without_a_batch.edit.
abbrev pub turns_in : History → List view.Turn
turns_in history = map turn_of (recorded_in history)

-- A machine is its turns.
-- Shown by: the_batch_is_not_entered.edit.
abbrev pub turns_of : Machine → List view.Turn
turns_of m = turns_in m.history

-- The turn that opens a book with the first tables, on which these batches were found, and with this disk, if there is a journal.
-- Shown by: first-run.
abbrev pub opening_on : List Batch → Option view.OpenedDisk → view.Turn
opening_on found disk = record { pass = None; connection = None; ask = view.opens first_tables found disk; k = 0; batch = None }

-- The same without a journal.
-- Shown by: first-run.
abbrev pub opening : view.Turn
opening = opening_on [] None

-- A legal history of a router that was opened with the first tables, and perhaps with the batches of a journal.
-- Shown by: the_batch_is_not_entered.edit.
pub record IsBook (turns : List view.Turn) : Type 0 where
  pub found : List Batch
  pub disk : Option view.OpenedDisk
  pub later : List view.Turn
  pub opened : turns ≡ opening_on found disk ∷ later
  pub legal : IsLegal turns

-- What holds of a machine between turns: its turns are a legal history, and its tables are those after them.
-- Shown by: the_batch_is_not_entered.edit.
pub record IsSoundMachine (m : Machine) : Type 0 where
  pub book : IsBook (turns_of m)
  pub tables : (state_of (turns_of m)).tables ≡ m.tables

-- A pass has no open claim.
-- Shown by: proofs alone.
abbrev pub Rests : ℕ → List view.Turn → Type 0
Rests n turns = claims_of n (state_of turns).open_claims ≡ []

-- A pass has this open claim and no other.
-- Shown by: proofs alone.
abbrev pub Holds : ℕ → List view.Turn → Claim → Type 0
Holds n turns c = claims_of n (state_of turns).open_claims ≡ record { pass = n; claim = c } ∷ []

-- To the history of a machine turns of the seat's pass were added, and no others.
-- Shown by: a_step_is_recorded_twice.edit.
abbrev pub HasGrown : Seat → Machine → Machine → Type 0
HasGrown seat old new = (more : List Turn) × (recorded_in new.history ≡ recorded_in old.history ++ more) × All (λ t. t.pass ≡ Some seat.pass) more
