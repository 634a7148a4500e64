-- Texts of events as the operations of a journal have them.
use Rattle.std.specs.Prelude.{◌≤◌, ℕ, List, IsTrue}
use Rattle.event_shape.specs.Event.{Event, IsEventText}
use Rattle.event_shape.specs.Names.{is_account}

-- The bytes are the text of an event that has a number, from 1 on, and the account of a caller, which has 12 digits.
-- Shown by: event_tests test_event_text.rt: texts_are_decided_as_marked.
abbrev pub IsNumberedText : List ℕ → Type 0
IsNumberedText bytes = (event : Event) × IsEventText bytes event × (1 ≤ event.number) × IsTrue (is_account event.account)
