-- Kept events.
use Rattle.std.specs.Prelude.{ℕ, ◌<◌, ◌≤◌, List, [], ◌∷◌, All}
use Rattle.event_shape.specs.Event.{Event, IsEventText}
use Rattle.archive_keep.specs.declared.event_ref.KeptEvent.{KeptEvent}

-- The text is some event's. A kept event's number and time need not be those of its text: a journal may say others.
-- Shown by: proofs alone.
abbrev pub IsTextOfEvent : List ℕ → Type 0
IsTextOfEvent text = (e : Event) × IsEventText text e

-- The second event was accepted after the first: its number is greater, and its moment is not earlier.
-- Shown by: proofs alone.
abbrev pub IsLater : KeptEvent → KeptEvent → Type 0
IsLater e o = (e.number < o.number) × (e.accepted ≤ o.accepted)

-- Each event was accepted before all events after it.
-- Shown by: proofs alone.
abbrev pub AreInOrder : List KeptEvent → Type 0
AreInOrder [] = Unit {0}
AreInOrder (e ∷ es) = All (IsLater e) es × AreInOrder es
