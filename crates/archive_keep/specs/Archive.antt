-- Archives: which events they retain, how many, and what an update leaves. The rules of EventBridge's archives, in seconds; that a longer
-- retention brings nothing back is this project's own.
use Rattle.std.specs.Prelude.{◌≡◌, ℕ, ◌+◌, ◌*◌, ◌<◌, ◌==◌, ◌||◌, Bool, true, not, nat_lt, List, [], ◌∷◌, ◌++◌, filter, length, All}
use Rattle.std.specs.List.{sum_by}
use Rattle.archive_keep.specs.declared.event_ref.KeptEvent.{KeptEvent}

-- An archive: its name, its days, the moment of its creation, and the events that it keeps, oldest first.
-- Shown by: archive_tests test_archive_keep.rt: each_archive_keeps_its_days.
pub record Archive : Type 0 where
  pub name : List ℕ
  pub days : ℕ
  pub created : ℕ
  pub events : List KeptEvent

-- The event is retained at the moment: with 0 days always, and else before its accepted moment and the days are over. One day, of 86,400
-- seconds, keeps an event of 1000 at 87399, and not at 87400.
-- Shown by: archive_tests test_archive_keep.rt: each_archive_keeps_its_days.
abbrev pub is_retained : ℕ → ℕ → KeptEvent → Bool
is_retained days moment e = (days == 0) || nat_lt moment (e.accepted + 86400 * days)

abbrev pub has_expired : ℕ → ℕ → KeptEvent → Bool
has_expired days moment e = not (is_retained days moment e)

-- The events that an archive retains at the moment, oldest first.
-- Shown by: archive_tests test_archive_keep.rt: each_archive_keeps_its_days; kept_a_second_longer.edit.
abbrev pub retained_at : ℕ → Archive → List KeptEvent
retained_at moment a = filter (is_retained a.days moment) a.events

-- The events that an archive keeps but does not retain at the moment, oldest first.
-- Shown by: archive_tests test_archive_keep.rt: each_archive_keeps_its_days.
abbrev pub expired_at : ℕ → Archive → List KeptEvent
expired_at moment a = filter (has_expired a.days moment) a.events

-- The bytes of the texts of events.
-- Shown by: archive_tests test_archive_keep.rt: each_archive_keeps_its_days.
abbrev pub size_of : List KeptEvent → ℕ
size_of events = sum_by (λ (e : KeptEvent). length e.text) events

-- An archive without events.
-- Shown by: archive_tests test_archive_keep.rt: each_archive_keeps_its_days.
abbrev pub empty_archive : List ℕ → ℕ → ℕ → Archive
empty_archive name days created = record { name = name; days = days; created = created; events = [] }

-- The archive keeps one event more.
-- Shown by: archive_tests test_archive_keep.rt: each_archive_keeps_its_days.
abbrev pub with_event : KeptEvent → Archive → Archive
with_event e a = record a { events = a.events ++ e ∷ [] }

-- The archive keeps only what it retains at the moment.
-- Shown by: archive_tests test_archive_keep.rt: each_archive_keeps_its_days.
abbrev pub purged : ℕ → Archive → Archive
purged moment a = record a { events = retained_at moment a }

-- The archive with new days, at a moment: it first drops what it does not retain by its old days.
-- Shown by: archive_tests test_archive_keep.rt: each_archive_keeps_its_days; a_longer_retention_brings_events_back.edit.
abbrev pub with_days : ℕ → ℕ → Archive → Archive
with_days days moment a = record (purged moment a) { days = days }

-- for private clauses: at moments before this one an archive of these days retains the event
abbrev pub IsKeptUntil : ℕ → ℕ → KeptEvent → Type 0
IsKeptUntil until days e = (moment : ℕ) → moment < until → is_retained days moment e ≡ true

abbrev pub KeepsUntil : ℕ → Archive → Type 0
KeepsUntil until a = All (IsKeptUntil until a.days) a.events
