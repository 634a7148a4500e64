-- A batch that is ready to be applied: beside it is one part for each entry, with all memory that applying the entry needs.
use Rattle.std.specs.Prelude.{◌≡◌, ℕ, List, [], ◌∷◌, ◌++◌, length, All, Option, Some, None}
use Rattle.archive_keep.specs.declared.event_ref.KeptEvent.{KeptEvent}
use Rattle.archive_keep.specs.Archive.{Archive, empty_archive}
use Rattle.name_rows.specs.Rows.{named}
use Rattle.archive_keep.specs.Archives.{name_of}
use Rattle.rule_table.specs.Control.{Control, queue_created, archive_created}
use Rattle.rule_table.specs.RuleSet.{RuleSet, applied, archive_at}
use Rattle.rule_table.specs.RuleSet.{Archive as Row}
use Rattle.replay_run.specs.declared.replays.NewReplay.{NewReplay}
use Rattle.replay_run.specs.Replays.{first_row, names_of, next_number}
use Rattle.router_requests.specs.declared.batch.StartedReplay.{StartedReplay}
use Rattle.router_requests.specs.Batch.{Accepted, Entry, control, accepted, attempt, replay_started, replay_stepped, replay_cancelled, messages_deleted}
use Rattle.router_core.specs.Tables.{Tables, after_entry, kept_event, settings_of}
use Rattle.router_core.specs.Admitted.{IsAdmitted}
use Rattle.router_requests.specs.View.{batch_of}
use Rattle.router_core.specs.declared.ready.Part.{Part}
use Rattle.router_core.specs.declared.ready.Part.TheVariants.{Configuration, Event, Start, Step, Cancellation, Nothing}
use Rattle.router_core.specs.declared.ready.Ready.{Ready}

-- A change that creates a queue comes with that new queue, and any other with none.
-- Shown by: proofs alone.
abbrev pub HasPlace : Control → Option (List ℕ) → Type 0
HasPlace (queue_created name) new_queue = new_queue ≡ Some name
HasPlace _ new_queue = new_queue ≡ None

-- A change that creates an archive comes with that archive, without events and created at the moment, and any other with none.
-- Shown by: proofs alone.
abbrev pub HasArchive : Control → ℕ → Option Archive → Type 0
HasArchive (archive_created name bus pattern days) moment new_archive = new_archive ≡ Some (empty_archive name days moment)
HasArchive _ moment new_archive = new_archive ≡ None

-- The records are those of an event that is accepted at the moment, one for each of its archives.
-- Shown by: proofs alone.
pub record AreKeptAs (moment : ℕ) (e : Accepted) (records : List KeptEvent) : Type 0 where
  pub each : All (λ k. k ≡ kept_event moment e) records
  pub number : length records ≡ length e.archives

-- What applying an operation of a batch of this moment needs, made on a rule set: the rule set after a change, with its new queue and its new
-- archive; rows for an event's duties and records for its archives; rows for the duties of a replay's step; or nothing for a cancelled replay
-- and for deleted messages. It holds no number, count or place that is read from the tables. What a replay that starts has beside that is in
-- `IsMadeOn`.
-- Shown by: law a_prepared_batch_stays_prepared.
abbrev pub IsPartOf : ℕ → RuleSet → Entry → Part → Type 0
IsPartOf moment set (control c) (Configuration new_set new_queue new_archive) =
    (new_set ≡ applied c set) × HasPlace c new_queue × HasArchive c moment new_archive
IsPartOf moment set (accepted e) (Event duties kept) = (duties ≡ e.duties) × AreKeptAs moment e kept
IsPartOf moment set (replay_started s) (Start new) = Unit {0}
IsPartOf moment set (replay_stepped s) (Step duties) = duties ≡ s.duties
IsPartOf moment set (replay_cancelled name) Cancellation = Unit {0}
IsPartOf moment set (messages_deleted queue through) Nothing = Unit {0}
IsPartOf moment set entry part = ⊥

-- The rule set after an operation.
-- Shown by: law a_prepared_batch_stays_prepared.
abbrev pub set_after : Entry → RuleSet → RuleSet
set_after (control c) set = applied c set
set_after (accepted e) set = set
set_after (attempt duty outcome) set = set
set_after (replay_started s) set = set
set_after (replay_stepped s) set = set
set_after (replay_cancelled name) set = set
set_after (messages_deleted queue through) set = set

-- One part for each operation, on the rule set after the operations before it.
-- Shown by: law a_prepared_batch_stays_prepared.
abbrev pub ArePartsOf : ℕ → RuleSet → List Entry → List Part → Type 0
ArePartsOf moment set [] parts = parts ≡ []
ArePartsOf moment set (e ∷ es) [] = ⊥
ArePartsOf moment set (e ∷ es) (part ∷ parts) = IsPartOf moment set e part × ArePartsOf moment (set_after e set) es parts

-- The replay that a start adds to these tables: it selects of its archive as it is there, has the next number, and comes with the names of
-- all replays, its own included.
-- Shown by: proofs alone.
pub record IsNewReplay (moment : ℕ) (s : StartedReplay) (t : Tables) (new : NewReplay) : Type 0 where
  pub row : Row
  pub known : archive_at s.archive t.set ≡ Some row
  pub archive : Archive
  pub kept : named name_of s.archive t.archives ≡ Some archive
  pub is : new.row ≡ first_row archive (settings_of moment row s) (next_number t.replays)
  pub names : new.names ≡ names_of (t.replays ++ new.row ∷ [])

-- The part of a replay that starts was made on the archives and the replays of these tables. Other parts need nothing of them.
-- Shown by: law a_prepared_batch_stays_prepared.
abbrev pub IsMadeOn : ℕ → Tables → Entry → Part → Type 0
IsMadeOn moment t (replay_started s) (Start new) = IsNewReplay moment s t new
IsMadeOn moment t entry part = Unit {0}

-- Each part was made on the tables after the operations before its own, as far as it needs them.
-- Shown by: law a_prepared_batch_stays_prepared.
abbrev pub AreMadeOn : ℕ → Tables → List Entry → List Part → Type 0
AreMadeOn moment t [] parts = Unit {0}
AreMadeOn moment t (e ∷ es) [] = Unit {0}
AreMadeOn moment t (e ∷ es) (part ∷ parts) = IsMadeOn moment t e part × AreMadeOn moment (after_entry moment e t) es parts

-- The operation starts no replay.
-- Shown by: law a_prepared_batch_stays_prepared.
abbrev pub IsNoStart : Entry → Type 0
IsNoStart (replay_started s) = ⊥
IsNoStart entry = Unit {0}

-- The parts of a ready batch fit the rule set of these tables, and that of a replay which starts was made on them.
-- Shown by: law a_prepared_batch_stays_prepared.
abbrev pub IsPrepared : Tables → Ready → Type 0
IsPrepared t r =
    ArePartsOf r.batch.moment t.set (batch_of r.batch).entries r.parts.items × AreMadeOn r.batch.moment t (batch_of r.batch).entries r.parts.items

-- The batch is this change alone, and its part has this rule set: the one after the change, if the batch is prepared.
-- Shown by: proofs alone.
pub record IsOneChange (r : Ready) (c : Control) (set : RuleSet) : Type 0 where
  pub entry : (batch_of r.batch).entries ≡ control c ∷ []
  pub queue : Option (List ℕ)
  pub archive : Option Archive
  pub others : List Part
  pub parts : r.parts.items ≡ Configuration set queue archive ∷ others

-- The batch can be applied: the tables admit it, and its parts fit.
-- Shown by: proofs alone.
pub record IsReadyFor (t : Tables) (r : Ready) : Type 0 where
  pub admitted : IsAdmitted t (batch_of r.batch)
  pub prepared : IsPrepared t r
