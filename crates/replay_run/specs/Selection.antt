-- What a replay selects. The order of equal times is this project's own rule.
use Rattle.std.specs.Prelude.{◌≡◌, ℕ, ◌<◌, ◌≤◌, ◌&&◌, ◌⊎◌, Bool, nat_le, if◌then◌else◌, List, [], ◌∷◌, filter, All}
use Rattle.archive_keep.specs.declared.event_ref.KeptEvent.{KeptEvent}
use Rattle.archive_keep.specs.Archive.{Archive, retained_at}
use Rattle.replay_run.specs.declared.selection.TimeRange.{TimeRange}

-- The event's time is in the range, of which both ends are part.
-- Shown by: archive_tests test_replay_run.rt: replays_repeat_their_selections; replay_past_its_range.edit.
abbrev pub is_in_range : TimeRange → KeptEvent → Bool
is_in_range range e = nat_le range.start e.time && nat_le e.time range.end

-- The events with one more, before the first one whose time is not earlier.
-- Shown by: equal_times_out_of_order.edit.
abbrev pub placed_by_time : KeptEvent → List KeptEvent → List KeptEvent
placed_by_time e [] = e ∷ []
placed_by_time e (o ∷ others) = if nat_le e.time o.time then e ∷ o ∷ others else o ∷ placed_by_time e others

-- The events in the order of their times. Those with one time stay in their order. Times 6000, 5000, 6000, 5000 of events 1 to 4 give
-- 2, 4, 1, 3.
-- Shown by: archive_tests test_replay_run.rt: replays_repeat_their_selections; equal_times_out_of_order.edit.
abbrev pub by_time : List KeptEvent → List KeptEvent
by_time [] = []
by_time (e ∷ es) = placed_by_time e (by_time es)

-- The events that an archive retains at the moment and whose time is in the range, oldest first.
-- Shown by: archive_tests test_replay_run.rt: replays_repeat_their_selections.
abbrev pub chosen_of : TimeRange → ℕ → Archive → List KeptEvent
chosen_of range moment a = filter (is_in_range range) (retained_at moment a)

-- The selection of a replay that starts at the moment: the events that the archive retains then and whose time is in the range, by time, and
-- of one time in the order in which they were accepted, which is that of their numbers.
-- Shown by: archive_tests test_replay_run.rt: replays_repeat_their_selections; an_event_is_left_out.edit.
abbrev pub selection_of : TimeRange → ℕ → Archive → List KeptEvent
selection_of range moment a = by_time (chosen_of range moment a)

-- The first event comes before the second: it has an earlier time, or the same time and a smaller number.
-- Shown by: proofs alone.
abbrev pub ComesBefore : KeptEvent → KeptEvent → Type 0
ComesBefore e o = (e.time < o.time) ⊎ ((e.time ≡ o.time) × (e.number < o.number))

-- Each event comes before all events after it, so none is there twice.
-- Shown by: law a_selection_is_in_order.
abbrev pub AreByTimeAndNumber : List KeptEvent → Type 0
AreByTimeAndNumber [] = Unit {0}
AreByTimeAndNumber (e ∷ es) = All (ComesBefore e) es × AreByTimeAndNumber es

-- for private clauses: no event has an earlier time than one before it
abbrev pub AreByTime : List KeptEvent → Type 0
AreByTime [] = Unit {0}
AreByTime (e ∷ es) = All (λ (o : KeptEvent). e.time ≤ o.time) es × AreByTime es
