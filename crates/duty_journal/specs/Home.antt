-- Where batches are appended: a journal, or nowhere.
use Rattle.std.specs.Prelude.{◌≡◌, ℕ, Bool, false, List, [], ◌∷◌, ◌++◌, ⊤, Option, Some, None, Result, IsOk}
use Rattle.router_disk.specs.declared.disk_call.DiskCall.{DiskCall}
use Rattle.router_requests.specs.Batch.{Batch}
use Rattle.std.specs.List.{AllByRecursion}
use Rattle.router_core.specs.Admitted.{IsAdmitted}
use Rattle.router_core.specs.Tables.{Tables, tables_after}
use Rattle.duty_journal.specs.declared.fault.DiskFault.{DiskFault}
use Rattle.duty_journal.specs.declared.journal.Journal as journals
use Rattle.duty_journal.specs.declared.home.Home.{Home}
use Rattle.duty_journal.specs.declared.home.Home.TheVariants.{Nowhere, Journal}
use Rattle.duty_journal.specs.Batch.{FitsBytes, NamesRules}
use Rattle.duty_journal.specs.Journal.{AreRecordable, IsAppended, IsSoundJournal, batches_of}

-- The journal, if there is one, is sound.
-- Shown by: proofs alone.
abbrev pub IsSoundHome : {D : Type 0} → (D → List DiskCall) → Home D → Type 0
IsSoundHome calls Nowhere = ⊤
IsSoundHome calls (Journal j) = IsSoundJournal calls j

-- From some tables on the journal's own batches can be recorded, and after them this one is admitted. Its duties name their rules.
-- Shown by: proofs alone.
pub record IsNextOf {D : Type 0} (j : journals.Journal D) (b : Batch) : Type 0 where
  pub start : Tables
  pub recordable : AreRecordable start (batches_of j)
  pub admitted : IsAdmitted (tables_after (batches_of j) start) b
  pub names : AllByRecursion NamesRules b.entries

-- The batch may be appended: it comes next in the journal, if there is one.
-- Shown by: proofs alone.
abbrev pub CanAppend : {D : Type 0} → Home D → Batch → Type 0
CanAppend Nowhere b = ⊤
CanAppend (Journal j) b = IsNextOf j b

-- What was prepared is for this batch, if there is a journal. Then its numbers, texts and lists have bytes.
-- Shown by: proofs alone.
abbrev pub IsPreparedFor : {D : Type 0} → Home D → Option (List Batch) → Batch → Type 0
IsPreparedFor Nowhere prepared b = prepared ≡ None
IsPreparedFor (Journal j) prepared b = (prepared ≡ Some (b ∷ [])) × FitsBytes b

-- The batch was appended to the journal, as `IsAppended` says. It can be recorded from all tables from which those before it can, and which
-- admit it after them.
-- Shown by: proofs alone.
pub record IsAppendedIn {D : Type 0} (calls : D → List DiskCall) (faults : D → ℕ) (old new : journals.Journal D) (b : Batch) (result : Result (Unit {0}) DiskFault) : Type 0 where
  pub appended : IsAppended calls faults old new (b ∷ []) result
  pub recordable : (start : Tables) → AreRecordable start (batches_of old) → IsAdmitted (tables_after (batches_of old) start) b
      → AreRecordable start (batches_of old ++ b ∷ [])

-- What appending a batch does. Without a journal it does nothing, and succeeds.
-- Shown by: proofs alone.
abbrev pub HasAppended : {D : Type 0} → (D → List DiskCall) → (D → ℕ) → Home D → Home D → Batch → Result (Unit {0}) DiskFault → Type 0
HasAppended calls faults Nowhere new b result = (new ≡ Nowhere) × IsOk result
HasAppended {D} calls faults (Journal j) new b result = (k : journals.Journal D) × (new ≡ Journal k) × IsAppendedIn calls faults j k b result

-- Whether an append failed.
-- Shown by: proofs alone.
abbrev pub is_broken_home : {D : Type 0} → Home D → Bool
is_broken_home Nowhere = false
is_broken_home (Journal j) = j.file.broken

-- The disk of the journal, if there is one.
-- Shown by: proofs alone.
abbrev pub disk_in : {D : Type 0} → Home D → Option D
disk_in Nowhere = None
disk_in (Journal j) = Some j.file.disk
