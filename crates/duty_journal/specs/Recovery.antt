-- What opening or reading a journal finds.
use Rattle.std.specs.Prelude.{◌≡◌, ◌⊎◌, ℕ, ◌+◌, ◌^◌, ◌<◌, ◌≤◌, List, [], ◌∷◌, ◌++◌, length, take, map, ⊤, Some, Result, Ok, Err}
use Rattle.std.specs.List.{flat_map}
use Rattle.router_disk.specs.declared.disk_call.DiskCall.{DiskCall}
use Rattle.router_disk.specs.declared.disk_call.DiskCall.TheVariants.{Sync}
use Rattle.router_disk.specs.declared.fault.Failed.{Failed as DiskFailed}
use Rattle.router_disk.specs.Disk.{AreAnswers, IsImageSince, file_of}
use Rattle.record_file.specs.Records.{first_gate, header, records, IsOtherFile}
use Rattle.record_file.specs.declared.scan.Scan.{Scan}
use Rattle.record_file.specs.declared.scan.Next.TheVariants as nexts
use Rattle.record_file.specs.State.{IsScan, IsScanOf, OnlyLooks, payload_of}
use Rattle.record_file.specs.Next.{IsClosedScan, IsNext}
use Rattle.router_requests.specs.Batch.{Batch}
use Rattle.router_core.specs.Tables.{Tables, after_batch, first_tables, tables_after}
use Rattle.router_core.specs.Admitted.{IsAdmitted}
use Rattle.duty_journal.specs.declared.fault.JournalFault.{JournalFault}
use Rattle.duty_journal.specs.declared.fault.JournalFault.TheVariants.{NotOurs, Damaged, Failed, NoMemory}
use Rattle.duty_journal.specs.declared.journal.Journal.{Journal}
use Rattle.duty_journal.specs.declared.recover.Found.{Found}
use Rattle.duty_journal.specs.declared.recover.Step.{Step}
use Rattle.duty_journal.specs.declared.recover.Step.TheVariants as steps
use Rattle.duty_journal.specs.Batch.{batch_bytes, IsReadable}
use Rattle.duty_journal.specs.Journal.{AreKept, AreRecordable, IsDamagedFile, IsJournal, IsRecovered, batches_in}
use Rattle.duty_journal.specs.Redo.{HasNoClaim}

-- The batches that were found, in order: those that the payloads are the bytes of, as `IsJournal` pins them.
-- Shown by: proofs alone.
abbrev pub batches_found : Found → List Batch
batches_found f = batches_in (flat_map (λ pair. pair.0) f.payloads.items)

-- What was found are batches that can be recorded from these tables on, and the tables after them.
-- Shown by: table_tests test_journal.rt: each_file_is_a_journal_or_refused.
pub record IsFound (start : Tables) (f : Found) : Type 0 where
  pub recordable : AreRecordable start (batches_found f)
  pub tables : f.tables ≡ tables_after (batches_found f) start

-- What a read gives is damaged at this record and this byte.
-- Shown by: table_tests test_journal.rt: each_file_is_a_journal_or_refused.
abbrev pub IsDamagedIn : Tables → List DiskCall → ℕ → ℕ → Type 0
IsDamagedIn start calls place byte = (first file : List ℕ) → AreAnswers first calls → file_of first calls ≡ Some file →
    IsDamagedFile start file place byte

-- What a read gives is no file of records.
-- Shown by: table_tests test_journal.rt: each_file_is_a_journal_or_refused.
abbrev pub IsNotOurs : List DiskCall → Type 0
IsNotOurs calls = (first file : List ℕ) → AreAnswers first calls → file_of first calls ≡ Some file → IsOtherFile file

-- The cause of a fault in what a read gives.
-- Shown by: proofs alone.
abbrev pub HasFault : Tables → List DiskCall → JournalFault → Type 0
HasFault start calls NotOurs = IsNotOurs calls
HasFault start calls (Damaged place byte) = IsDamagedIn start calls place byte
HasFault start calls Failed = ⊤
HasFault start calls NoMemory = ⊤

-- The outcome for the disk's count of faults: only a failure of the disk is one.
-- Shown by: proofs alone.
abbrev pub outcome_of : {T : Type 0} → Result T JournalFault → Result (Unit {0}) DiskFailed
outcome_of (Ok found) = Ok tt
outcome_of (Err NotOurs) = Ok tt
outcome_of (Err (Damaged place byte)) = Ok tt
outcome_of (Err Failed) = Err (record {})
outcome_of (Err NoMemory) = Ok tt

-- What each image since the first sync of an opening is: the file as it was, if that has more than nine bytes, and else a journal of no
-- batch.
-- Shown by: table_tests test_journal.rt: a_journal_is_opened_as_it_is_read.
abbrev pub KeepsFile : List ℕ → List DiskCall → Type 0
KeepsFile first calls = (image : List ℕ) → IsImageSince first calls 1 image →
    (9 < length first → image ≡ first) × (length first ≤ 9 → IsJournal image first_tables [])

-- A disk on which a journal was just opened: the file was a journal of these batches, a read gives one, no crash since the first sync leaves
-- anything else, and a file of more than nine bytes was not changed.
-- Shown by: table_tests test_journal.rt: a_journal_is_opened_as_it_is_read.
pub record HasOpened (first : List ℕ) (calls : List DiskCall) (batches : List Batch) : Type 0 where
  pub held : IsJournal first first_tables batches
  pub recovered : IsRecovered first calls 1 first_tables batches
  pub kept : AreKept first calls first_tables batches 1 batches batches
  pub file : KeepsFile first calls

-- An opening that failed: its first sync did, or the file was not changed since then but to begin it.
-- Shown by: proofs alone.
abbrev pub IsStoppedOpening : List DiskCall → Type 0
IsStoppedOpening calls =
    ((fault : DiskFailed) × (calls ≡ Sync (Err fault) ∷ [])) ⊎ ((first : List ℕ) → AreAnswers first calls → KeepsFile first calls)

-- The disk, whether the journal could be opened or not.
-- Shown by: proofs alone.
abbrev pub disk_left : {D : Type 0} → Result (Journal D × Found) (JournalFault × D) → D
disk_left (Ok r) = r.0.file.disk
disk_left (Err e) = e.1

-- The outcome of an opening for the disk's count of faults.
-- Shown by: proofs alone.
abbrev pub opening_of : {D : Type 0} → Result (Journal D × Found) (JournalFault × D) → Result (Unit {0}) DiskFailed
opening_of (Ok r) = Ok tt
opening_of (Err e) = outcome_of {T = Unit {0}} (Err e.0)

-- ---- for private clauses: the records that were read so far

-- a read gives a file of this size, with the header
abbrev pub IsOfSize : ℕ → List DiskCall → Type 0
IsOfSize size calls = (first file : List ℕ) → AreAnswers first calls → file_of first calls ≡ Some file →
    (size ≡ length file) × (length file < 2 ^ 63) × (take 8 file ≡ header)

-- the place and the byte of the record that a scan is at, and that of an open gate with no record
abbrev pub IsPlaced : Scan → Step → Type 0
IsPlaced s steps.Went = ⊥
IsPlaced s steps.Closed = ⊥
IsPlaced s (steps.Damaged place byte) = (file : List ℕ) → IsScanOf file s → (place ≡ length s.found + 1) × (byte ≡ s.first + length (records s.found))
IsPlaced s steps.Failed = ⊥
IsPlaced s steps.NoMemory = ⊥

-- the tables are those after the batches of a scan's payloads
pub record IsReadTo (start : Tables) (s : Scan) (t : Tables) : Type 0 where
  pub batches : List Batch
  pub payloads : s.found ≡ map batch_bytes batches
  pub recordable : AreRecordable start batches
  pub tables : t ≡ tables_after batches start

-- the payload is that of a batch that the tables admit, which is applied
pub record HasRedone (s new : Scan) (t after : Tables) : Type 0 where
  pub batch : Batch
  pub payload : payload_of s ≡ batch_bytes batch
  pub readable : IsReadable batch
  pub admitted : IsAdmitted t batch
  pub tables : after ≡ after_batch batch t
  pub found : new.found ≡ s.found ++ payload_of s ∷ []
  pub place : new.place ≡ s.next_place
  pub size : new.size ≡ s.size
  pub first : new.first ≡ s.first
  pub scan : (file : List ℕ) → IsScanOf file s → IsNext file s nexts.Record → IsScanOf file new

-- the payload is that of no batch that the tables admit; the record's place and byte
pub record HasNotRedone (s : Scan) (t : Tables) (place byte : ℕ) : Type 0 where
  pub none : (b : Batch) → IsReadable b → IsAdmitted t b → payload_of s ≡ batch_bytes b → ⊥
  pub at : (file : List ℕ) → IsScanOf file s → (place ≡ length s.found + 1) × (byte ≡ s.first + length (records s.found))

abbrev pub IsRedone : Scan → Tables → Scan → Tables → Step → Type 0
IsRedone s t new after steps.Went = HasRedone s new t after
IsRedone s t new after steps.Closed = ⊥
IsRedone s t new after (steps.Damaged place byte) = HasNotRedone s t place byte
IsRedone s t new after steps.Failed = ⊥
IsRedone s t new after steps.NoMemory = ⊤

-- one more record was read
pub record HasGone (old calls : List DiskCall) (s new : Scan) (t after : Tables) : Type 0 where
  pub scan : IsScan old s → IsScan calls new
  pub ahead : s.place < new.place
  pub size : new.size ≡ s.size
  pub first : new.first ≡ s.first
  pub read : (start : Tables) → IsReadTo start s t → IsReadTo start new after
  pub unclaimed : HasNoClaim after

-- all records were read
pub record HasEnded (old calls : List DiskCall) (s new : Scan) (t after : Tables) : Type 0 where
  pub scan : IsScan old s → IsScan calls new
  pub closed : IsScan old s → IsClosedScan calls new
  pub first : new.first ≡ s.first
  pub read : (start : Tables) → IsReadTo start s t → IsReadTo start new after

-- the next record is damaged
abbrev pub HasStopped : List DiskCall → List DiskCall → Scan → Tables → ℕ → ℕ → Type 0
HasStopped old calls s t place byte = (start : Tables) → s.first ≡ first_gate → IsReadTo start s t → IsScan old s → IsDamagedIn start calls place byte

abbrev pub IsStep : List DiskCall → List DiskCall → Scan → Tables → Scan → Tables → Step → Type 0
IsStep old calls s t new after steps.Went = HasGone old calls s new t after
IsStep old calls s t new after steps.Closed = HasEnded old calls s new t after
IsStep old calls s t new after (steps.Damaged place byte) = HasStopped old calls s t place byte
IsStep old calls s t new after steps.Failed = ⊤
IsStep old calls s t new after steps.NoMemory = ⊤

abbrev pub step_outcome : Step → Result (Unit {0}) DiskFailed
step_outcome steps.Went = Ok tt
step_outcome steps.Closed = Ok tt
step_outcome (steps.Damaged place byte) = Ok tt
step_outcome steps.Failed = Err (record {})
step_outcome steps.NoMemory = Ok tt

abbrev pub IsRead : List DiskCall → List DiskCall → Scan → Tables → Scan → Tables → Result (Unit {0}) JournalFault → Type 0
IsRead old calls s t new after (Ok done) = HasEnded old calls s new t after
IsRead old calls s t new after (Err NotOurs) = ⊥
IsRead old calls s t new after (Err (Damaged place byte)) = HasStopped old calls s t place byte
IsRead old calls s t new after (Err Failed) = ⊤
IsRead old calls s t new after (Err NoMemory) = ⊤

-- what holds while records are read, from the first of them on
pub record IsReading (old calls : List DiskCall) (before now : ℕ) (s here : Scan) (t after : Tables) : Type 0 where
  pub looks : OnlyLooks old calls
  pub same : now ≡ before
  pub scan : IsScan old s → IsScan calls here
  pub first : here.first ≡ s.first
  pub read : (start : Tables) → IsReadTo start s t → IsReadTo start here after
  pub unclaimed : HasNoClaim after
