-- A check of a journal: what its file is, and what is printed.
use Rattle.std.specs.Prelude.{◌≡◌, ◌≢◌, ℕ, ◌⊎◌, List, [], ◌∷◌, ◌++◌}
use Rattle.std.specs.List.{AllByRecursion}
use Rattle.router_disk.specs.declared.disk_call.DiskCall.{DiskCall}
use Rattle.router_disk.specs.Disk.{AreAnswers}
use Rattle.router_disk.specs.Faults.{Rose}
use Rattle.record_file.specs.Records.{IsOtherFile}
use Rattle.record_file.specs.State.{IsLook}
use Rattle.bus_host.specs.declared.host.HostFault.{HostFault}
use Rattle.bus_host.specs.declared.host.HostFault.TheVariants as host
use Rattle.program_lines.specs.declared.status.Status.{Status}
use Rattle.program_lines.specs.declared.status.Status.TheVariants as statuses
use Rattle.program_lines.specs.Printed.{summary_lines}
use Rattle.router_requests.specs.Batch.{Batch}
use Rattle.router_core.specs.Tables.{first_tables, tables_after}
use Rattle.duty_journal.specs.declared.fault.JournalFault.{JournalFault}
use Rattle.duty_journal.specs.declared.fault.JournalFault.TheVariants as faults
use Rattle.duty_journal.specs.Journal.{IsDamagedFile, IsJournal}
use Rattle.tables_summary.specs.Summary.{WritesPart, summary_of}

-- What is known around a check: the bytes written; the disks that the host gave, each after its path, and those that it took back; and its
-- count of faults of disks.
-- Shown by: table_tests test_journal_check.rt: a_file_is_checked.
pub record AroundDisk (D : Type 0) : Type 0 where
  pub written : List ℕ
  pub disks : List (List ℕ × D)
  pub disks_back : List D
  pub disk_faults : ℕ

-- The `AroundDisk` with these parts.
-- Shown by: table_tests test_journal_check.rt: a_file_is_checked.
abbrev pub around_disk : {D : Type 0} → List ℕ → List (List ℕ × D) → List D → ℕ → AroundDisk D
around_disk written disks disks_back disk_faults = record { written = written; disks = disks; disks_back = disks_back; disk_faults = disk_faults }

-- The file had this property as its disk was opened, if the answers of the disk's calls are those of the model.
-- Shown by: table_tests test_journal_check.rt: a_file_is_checked.
abbrev pub FileWas : List DiskCall → (List ℕ → Type 0) → Type 0
FileWas calls Holds = (first : List ℕ) → AreAnswers first calls → Holds first

-- The file was a journal of some batches, and this was printed: the summary of the tables after them, or what `Prints` says of it.
-- Shown by: table_tests test_journal_check.rt: a_file_is_checked.
pub record IsJournalPrinted (calls : List DiskCall) (Prints : List ℕ → Type 0) : Type 0 where
  pub batches : List Batch
  pub journal : FileWas calls (λ file. IsJournal file first_tables batches)
  pub printed : Prints (summary_lines (summary_of (tables_after batches first_tables)))

-- What the status says of the file and of what was printed. With `Done` and `WriteFault` the file was a journal, whose summary was printed, or
-- a first part of it. With `NotOurs` it had another header, and with `Damaged` it was damaged at this record and this byte. Then, and with
-- `DiskFault` and `NoMemory`, nothing was printed. There is no other status.
-- Shown by: table_tests test_journal_check.rt: a_file_is_checked.
abbrev pub HasStatus : List DiskCall → List ℕ → List ℕ → Status → Type 0
HasStatus calls old new statuses.Done = IsJournalPrinted calls (λ text. new ≡ old ++ text)
HasStatus calls old new statuses.WriteFault = IsJournalPrinted calls (λ text. WritesPart old new text)
HasStatus calls old new statuses.NotOurs = FileWas calls IsOtherFile × (new ≡ old)
HasStatus calls old new (statuses.Damaged place byte) = FileWas calls (λ file. IsDamagedFile first_tables file place byte) × (new ≡ old)
HasStatus calls old new statuses.DiskFault = new ≡ old
HasStatus calls old new statuses.NoMemory = new ≡ old
HasStatus calls old new statuses.Usage = ⊥
HasStatus calls old new statuses.ReadFault = ⊥
HasStatus calls old new statuses.DoorFault = ⊥
HasStatus calls old new statuses.Cut = ⊥
HasStatus calls old new statuses.Long = ⊥
HasStatus calls old new statuses.Refused = ⊥

-- A disk was read, and nothing was written to it or synced. Its count of faults rose, or was at its last value, if the status is `DiskFault`,
-- and is unchanged at every other status.
-- Shown by: table_tests test_journal_check.rt: a_file_is_checked.
pub record IsInspected (before now : ℕ) (calls : List DiskCall) (old new : List ℕ) (status : Status) : Type 0 where
  pub looks : AllByRecursion IsLook calls
  pub found : HasStatus calls old new status
  pub disk_fault : status ≡ statuses.DiskFault → Rose before now
  pub disk_faultless : status ≢ statuses.DiskFault → now ≡ before

-- The host gave one disk, at the path, and took it back after it was read (`IsInspected`), with no fault of its own. That the disk that
-- came back is the one that was lent is in no field: a check of any type of disk has no other to give back.
-- Shown by: table_tests test_journal_check.rt: a_file_is_checked.
pub record Checks {D : Type 0} (calls : D → List DiskCall) (faults : D → ℕ) (path : List ℕ) (old new : AroundDisk D) (status : Status) : Type 0 where
  pub lent : D
  pub returned : D
  pub opened : calls lent ≡ []
  pub disks : new.disks ≡ old.disks ++ (path, lent) ∷ []
  pub disks_back : new.disks_back ≡ old.disks_back ++ returned ∷ []
  pub faultless : new.disk_faults ≡ old.disk_faults
  pub read : IsInspected (faults lent) (faults returned) (calls returned) old.written new.written status

-- The host gave no disk, and nothing was printed: it failed, or memory was refused.
-- Shown by: table_tests test_journal_check.rt: a_host_without_a_disk_ends_a_check.
pub record IsUnchecked {D : Type 0} (old new : AroundDisk D) (status : Status) : Type 0 where
  pub unwritten : new.written ≡ old.written
  pub none_given : new.disks ≡ old.disks
  pub none_back : new.disks_back ≡ old.disks_back
  pub cause : ((status ≡ statuses.DiskFault) × Rose old.disk_faults new.disk_faults)
      ⊎ ((status ≡ statuses.NoMemory) × (new.disk_faults ≡ old.disk_faults))

-- `Checks` or `IsUnchecked`.
-- Shown by: table_tests test_journal_check.rt: a_file_is_checked, a_host_without_a_disk_ends_a_check.
abbrev pub IsCheck : {D : Type 0} → (D → List DiskCall) → (D → ℕ) → List ℕ → AroundDisk D → AroundDisk D → Status → Type 0
IsCheck calls faults path old new status = Checks calls faults path old new status ⊎ IsUnchecked old new status

-- The status of a journal that is not read or opened.
-- Shown by: table_tests test_journal_check.rt: a_file_is_checked.
abbrev pub status_of_fault : JournalFault → Status
status_of_fault faults.NotOurs = statuses.NotOurs
status_of_fault (faults.Damaged place byte) = statuses.Damaged place byte
status_of_fault faults.Failed = statuses.DiskFault
status_of_fault faults.NoMemory = statuses.NoMemory

-- The status of a host that gave no disk.
-- Shown by: table_tests test_journal_check.rt: a_host_without_a_disk_ends_a_check.
abbrev pub status_of_opening : HostFault → Status
status_of_opening host.Failed = statuses.DiskFault
status_of_opening host.NoMemory = statuses.NoMemory
