-- For private clauses alone: an event that archives can keep.
use Rattle.std.specs.Prelude.{◌≡◌, ℕ, ◌+◌, ◌^◌, ◌<◌, ◌≤◌, List, All, Some, length}
use Rattle.name_rows.specs.Rows.{AreSorted, named}
use Rattle.archive_keep.specs.declared.event_ref.KeptEvent.{KeptEvent}
use Rattle.archive_keep.specs.Archive.{Archive}
use Rattle.archive_keep.specs.Archives.{name_of}
use Rattle.router_core.specs.Tables.{KeepsUpTo}

-- the event is the one after all events that archives keep, whose number this is and which were accepted by the moment before
pub record IsNextEvent (events before : ℕ) (e : KeptEvent) : Type 0 where
  pub number : e.number ≡ events + 1
  pub later : before ≤ e.accepted
  pub bound : events < 2 ^ 49

-- the records are those of one event, one for each name; the names are distinct, and the archives keep earlier events alone
pub record CanKeep (names : List (List ℕ)) (archives : List Archive) (records : List KeptEvent) : Type 0 where
  pub event : KeptEvent
  pub events : ℕ
  pub before : ℕ
  pub each : All (λ k. k ≡ event) records
  pub number : length records ≡ length names
  pub sorted : AreSorted (λ name. name) names
  pub earlier : All (KeepsUpTo events before) archives
  pub next : IsNextEvent events before event

-- the archive of the name, if there is one, keeps earlier events alone
abbrev pub IsUntouched : ℕ → ℕ → List Archive → List ℕ → Type 0
IsUntouched events before archives name = (a : Archive) → named name_of name archives ≡ Some a → KeepsUpTo events before a
