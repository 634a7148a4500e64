-- For private clauses alone: the invariant of an archive.
use Rattle.std.specs.Prelude.{◌≡◌, ℕ, ◌^◌, ◌<◌, List, All, length}
use Rattle.archive_keep.specs.declared.event_ref.KeptEvent.{KeptEvent}
use Rattle.archive_keep.specs.Kept.{AreInOrder}
use Rattle.archive_keep.specs.Archive.{size_of}

-- the number is that of the bytes of the events' texts, each of which is short enough for a `usize`; the events are in order
pub record IsSummed (bytes : ℕ) (events : List KeptEvent) : Type 0 where
  pub in_order : AreInOrder events
  pub sum : bytes ≡ size_of events
  pub short : All (λ (e : KeptEvent). length e.text < 2 ^ 64) events
