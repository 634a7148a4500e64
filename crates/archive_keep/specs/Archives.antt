-- All archives, in the byte order of their names.
use Rattle.std.specs.Prelude.{ℕ, if◌then◌else◌, List, [], ◌∷◌, map, flat_map, length}
use Rattle.std.specs.List.{sum_by}
use Rattle.std.specs.Str.{bytes_eq}
use Rattle.archive_keep.specs.declared.event_ref.KeptEvent.{KeptEvent}
use Rattle.archive_keep.specs.Archive.{Archive, with_event, with_days, purged, expired_at}

-- The greatest number of archives.
-- Shown by: proofs alone.
abbrev pub most_archives : ℕ
most_archives = 100

-- The name of an archive.
-- Shown by: proofs alone.
abbrev pub name_of : Archive → List ℕ
name_of a = a.name

-- The archive that is there stays.
-- Shown by: proofs alone.
abbrev pub keeping : Archive → Archive → Archive
keeping old new = old

-- The archives, with this change of the one of this name; unchanged if there is none.
-- Shown by: archive_tests test_archive_keep.rt: each_archive_keeps_its_days.
abbrev pub changed_named : List ℕ → (Archive → Archive) → List Archive → List Archive
changed_named name change [] = []
changed_named name change (a ∷ others) = if bytes_eq a.name name then change a ∷ others else a ∷ changed_named name change others

-- The archive of this name keeps one event more.
-- Shown by: archive_tests test_archive_keep.rt: each_archive_keeps_its_days.
abbrev pub kept_in : List ℕ → KeptEvent → List Archive → List Archive
kept_in name e archives = changed_named name (with_event e) archives

-- The archive of this name gets new days at a moment (`with_days`).
-- Shown by: a_longer_retention_brings_events_back.edit.
abbrev pub kept_for : List ℕ → ℕ → ℕ → List Archive → List Archive
kept_for name days moment archives = changed_named name (with_days days moment) archives

-- Each archive keeps only what it retains at the moment.
-- Shown by: archive_tests test_archive_keep.rt: each_archive_keeps_its_days.
abbrev pub all_purged : ℕ → List Archive → List Archive
all_purged moment archives = map (purged moment) archives

-- The events that the archives keep and do not retain at the moment, archive by archive, oldest first.
-- Shown by: archive_tests test_archive_keep.rt: each_archive_keeps_its_days.
abbrev pub all_expired : ℕ → List Archive → List KeptEvent
all_expired moment archives = flat_map (expired_at moment) archives

-- The number of events that the archives keep.
-- Shown by: proofs alone.
abbrev pub event_count : List Archive → ℕ
event_count archives = sum_by (λ (a : Archive). length a.events) archives

-- The events that the archive of this name keeps and does not retain at the moment; none if there is no such archive.
-- Shown by: a_longer_retention_brings_events_back.edit.
abbrev pub expired_in : List ℕ → ℕ → List Archive → List KeptEvent
expired_in name moment [] = []
expired_in name moment (a ∷ others) = if bytes_eq a.name name then expired_at moment a else expired_in name moment others
