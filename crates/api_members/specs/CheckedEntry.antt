-- Entries of a PutEvents, checked once.
use Rattle.std.specs.Prelude.{◌≡◌, ℕ, List, [], ◌∷◌, sum_by, unwrap_or, Result, Ok, Err}
use Rattle.json_text.specs.Checks.{IsFirst}
use Rattle.event_shape.specs.Entry.{Entry, size_of}
use Rattle.event_shape.specs.Event.{Checked, IsCheckedOf, IsMade}
use Rattle.event_shape.specs.Fault.{entry_checks}
use Rattle.event_shape.specs.Unnumbered.{Unnumbered}
use Rattle.event_shape.specs.declared.entry.EntryFault.{EntryFault}

-- An entry without a fault gives its event, whose number is open and whose account is the caller. Another entry gives its first fault.
-- Shown by: tables api_wire.rows: an_event_has_the_account_of_its_caller, a_request_has_what_the_message_gives.
abbrev pub IsChecked : ℕ → List ℕ → Entry → Result Unnumbered EntryFault → Type 0
IsChecked reading caller entry (Ok u) =
    (c : Checked) × IsCheckedOf entry c × IsMade c 0 reading caller u.event × (u.bus ≡ c.bus)
    × (u.moment ≡ unwrap_or c.time reading)
IsChecked reading caller entry (Err fault) = IsFirst (entry_checks entry) fault

-- Each entry gives what `IsChecked` says, in order.
-- Shown by: tables api_wire.rows: a_request_has_what_the_message_gives.
abbrev pub AreChecked : ℕ → List ℕ → List Entry → List (Result Unnumbered EntryFault) → Type 0
AreChecked reading caller [] all = all ≡ []
AreChecked reading caller (entry ∷ entries) all = (one : Result Unnumbered EntryFault) × (rest : List (Result Unnumbered EntryFault))
    × (all ≡ one ∷ rest) × IsChecked reading caller entry one × AreChecked reading caller entries rest

-- The number of bytes that the entries have together, faulty ones included.
-- Shown by: tables api_wire.rows: a_request_has_what_the_message_gives.
abbrev pub total_size : List Entry → ℕ
total_size entries = sum_by size_of entries
