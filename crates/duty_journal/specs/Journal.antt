-- Journals: files of records whose payloads are batches, each of which the tables before it admit. The tables before the first batch are an
-- argument, since a journal need not begin with the first ones.
use Rattle.std.specs.Prelude.{◌≡◌, ◌⊎◌, ℕ, ◌+◌, ◌<◌, List, [], ◌∷◌, ◌++◌, length, take, map, Option, Some, None, Result, is_err, true, false, if◌then◌else◌}
use Rattle.std.specs.Prelude.{IsErr, MatchResult}
use Rattle.router_disk.specs.declared.disk_call.DiskCall.{DiskCall}
use Rattle.router_disk.specs.Disk.{AreAnswers, IsImage, IsImageSince, file_of}
use Rattle.router_disk.specs.Faults.{CountsFaults}
use Rattle.record_file.specs.Records.{first_gate, header, length_bytes, records, HasRecords, IsFileOf}
use Rattle.record_file.specs.State.{IsSound, payloads_of}
use Rattle.record_file.specs.Append.{MadeCalls}
use Rattle.router_requests.specs.Batch.{Batch}
use Rattle.router_core.specs.Tables.{Tables, after_batch, tables_after}
use Rattle.router_core.specs.Admitted.{IsAdmitted}
use Rattle.duty_journal.specs.declared.fault.DiskFault.{DiskFault}
use Rattle.duty_journal.specs.declared.journal.Journal.{Journal}
use Rattle.duty_journal.specs.Batch.{batch_bytes, IsReadable}
use Rattle.duty_journal.specs.Reading.{batch_at}

-- Each batch can be read back from its bytes, and is admitted on the tables after those before it.
-- Shown by: an_earlier_moment_is_admitted.edit.
abbrev pub AreRecordable : Tables → List Batch → Type 0
AreRecordable t [] = Unit {0}
AreRecordable t (b ∷ bs) = IsReadable b × IsAdmitted t b × AreRecordable (after_batch b t) bs

-- The file is a journal of these batches, which begin at these tables.
-- Shown by: table_tests test_journal.rt: each_file_is_a_journal_or_refused.
abbrev pub IsJournal : List ℕ → Tables → List Batch → Type 0
IsJournal file start batches = IsFileOf file (map batch_bytes batches) × AreRecordable start batches

-- What follows an open gate begins with no record of a batch that these tables admit, with a gate after it.
-- Shown by: table_tests test_journal.rt: each_file_is_a_journal_or_refused.
abbrev pub HasNoBatch : Tables → List ℕ → Type 0
HasNoBatch t rest = (b : Batch) (gate : ℕ) (more : List ℕ) → IsReadable b → IsAdmitted t b →
    rest ≡ length_bytes (length (batch_bytes b)) ++ (batch_bytes b ++ (gate ∷ more)) → ⊥

-- The journal, whose first gate is at this byte, is damaged after these batches: an open gate comes next, and no record of an admitted
-- batch with a gate after it. The record's place counts from 1, the byte is that of its gate.
-- Shown by: table_tests test_journal.rt: each_file_is_a_journal_or_refused; damage_ends_the_list.edit.
pub record IsDamagedJournal (file : List ℕ) (at : ℕ) (start : Tables) (batches : List Batch) (place byte : ℕ) : Type 0 where
  pub long : at + 1 < length file
  pub begins : take 8 file ≡ header
  pub recordable : AreRecordable start batches
  pub rest : List ℕ
  pub has : HasRecords at file (map batch_bytes batches) 1 rest
  pub none : HasNoBatch (tables_after batches start) rest
  pub is_place : place ≡ length batches + 1
  pub is_byte : byte ≡ at + length (records (map batch_bytes batches))

-- The file, which begins at these tables after its header, is damaged at this record and this byte.
-- Shown by: table_tests test_journal.rt: each_file_is_a_journal_or_refused.
abbrev pub IsDamagedFile : Tables → List ℕ → ℕ → ℕ → Type 0
IsDamagedFile start file place byte = (batches : List Batch) × IsDamagedJournal file first_gate start batches place byte

-- The second list of batches begins with the first.
-- Shown by: proofs alone.
abbrev pub IsFrontOf : List Batch → List Batch → Type 0
IsFrontOf first whole = (rest : List Batch) × (whole ≡ first ++ rest)

-- The file is a journal of at least the one list of batches, and at most the other, in order.
-- Shown by: proofs alone.
abbrev pub IsJournalBetween : Tables → List Batch → List Batch → List ℕ → Type 0
IsJournalBetween start least most file = (batches : List Batch) × IsJournal file start batches × IsFrontOf least batches × IsFrontOf batches most

-- Every image since a moment is a journal of the batches that were found, and of no others than all; each that a crash now may leave has at
-- least those that are safe. What was found is safe.
-- Shown by: proofs alone.
pub record AreKept (first : List ℕ) (calls : List DiskCall) (start : Tables) (found : List Batch) (since : ℕ) (safe all : List Batch) : Type 0 where
  pub order : IsFrontOf found safe
  pub each : (image : List ℕ) → IsImageSince first calls since image → IsJournalBetween start found all image
  pub now : (image : List ℕ) → IsImage first calls image → IsJournalBetween start safe all image

-- What a read gives is known, and it and every image since a moment are journals of these batches.
-- Shown by: table_tests test_journal.rt: a_journal_is_opened_as_it_is_read.
pub record IsRecovered (first : List ℕ) (calls : List DiskCall) (since : ℕ) (start : Tables) (batches : List Batch) : Type 0 where
  pub file : List ℕ
  pub known : file_of first calls ≡ Some file
  pub read : IsJournal file start batches
  pub each : (image : List ℕ) → IsImageSince first calls since image → IsJournal image start batches

-- the batch, if nothing is left after it
abbrev pub whole_batch : Option (Batch × List ℕ) → List Batch
whole_batch None = []
whole_batch (Some (b, [])) = b ∷ []
whole_batch (Some (b, x ∷ rest)) = []

-- The batches with these bytes, one of each payload that is a batch's. Nobody has to believe how a batch is read: `IsJournal` pins the list.
-- Shown by: proofs alone.
abbrev pub batches_in : List (List ℕ) → List Batch
batches_in [] = []
batches_in (payload ∷ payloads) = whole_batch (batch_at payload) ++ batches_in payloads

-- The batches that a journal has found and appended, in order.
-- Shown by: proofs alone.
abbrev pub batches_of : {D : Type 0} → Journal D → List Batch
batches_of j = batches_in (payloads_of j.file)

-- A journal between its calls: its file is sound, and each payload is a batch's.
-- Shown by: proofs alone.
abbrev pub IsSoundJournal : {D : Type 0} → (D → List DiskCall) → Journal D → Type 0
IsSoundJournal calls j = IsSound calls j.file × (payloads_of j.file ≡ map batch_bytes (batches_of j))

-- A crash at any moment of an append, or between it and the next call, leaves a journal of the batches before it, or of these and all of
-- its own.
-- Shown by: table_tests test_journal.rt: a_crash_leaves_an_append_whole_or_missing.
abbrev pub LeavesBothJournals : List DiskCall → List DiskCall → Tables → List Batch → List Batch → Type 0
LeavesBothJournals old new start before more = (first : List ℕ) → AreAnswers first new → (image : List ℕ) → IsImageSince first new (length old) image →
    IsJournal image start before ⊎ IsJournal image start (before ++ more)

-- What was kept before an append is kept after it: if it succeeded all batches are safe, its own too; if it failed, those before it.
-- Shown by: proofs alone.
abbrev pub StayKept : List DiskCall → List DiskCall → Tables → List Batch → List Batch → Result (Unit {0}) DiskFault → Type 0
StayKept old new start before more result = (first : List ℕ) (found : List Batch) (since : ℕ) → AreAnswers first new →
    AreKept first old start found since before before →
    MatchResult result
    (λ _. AreKept first new start found since (before ++ more) (before ++ more))
    (λ _. AreKept first new start found since before (before ++ more))

-- What an append does, if all batches, its own too, can be recorded from these tables on. A journal that is broken makes no call.
-- Shown by: table_tests test_journal.rt: a_crash_leaves_an_append_whole_or_missing, an_append_has_its_bytes.
pub record IsAppended {D : Type 0} (calls : D → List DiskCall) (faults : D → ℕ) (old new : Journal D) (more : List Batch) (result : Result (Unit {0}) DiskFault) : Type 0 where
  pub sound : IsSoundJournal calls new
  -- the batches are the journal's own after `Ok`
  pub batches : batches_of new ≡ (if is_err result then batches_of old else batches_of old ++ more)
  -- a failure breaks it
  pub broken : new.file.broken ≡ is_err result
  -- once broken it refuses, and writes no more
  pub no_more : old.file.broken ≡ true → IsErr result × (new ≡ old)
  -- each failure is the disk's
  pub count : old.file.broken ≡ false → CountsFaults (faults old.file.disk) (faults new.file.disk) result
  -- what is known of the answers after it is known of those before
  pub answers : (first : List ℕ) → AreAnswers first (calls new.file.disk) → AreAnswers first (calls old.file.disk)
  -- four calls after `Ok`
  pub made : MadeCalls (calls old.file.disk) (calls new.file.disk) result
  pub any_moment : old.file.broken ≡ false → (start : Tables) → AreRecordable start (batches_of old ++ more) →
      LeavesBothJournals (calls old.file.disk) (calls new.file.disk) start (batches_of old) more
  pub kept : old.file.broken ≡ false → (start : Tables) → AreRecordable start (batches_of old ++ more) →
      StayKept (calls old.file.disk) (calls new.file.disk) start (batches_of old) more result
