-- A run of `once` whose changes are appended to a journal.
use Rattle.std.specs.Prelude.{◌≡◌, ℕ, ◌⊎◌, Bool, true, false, List, [], ◌∷◌, ◌++◌, Option, Some}
use Rattle.router_disk.specs.declared.disk_call.DiskCall.{DiskCall}
use Rattle.router_disk.specs.Faults.{Rose}
use Rattle.router_disk.specs.Link.{Exchange}
use Rattle.program_lines.specs.declared.status.Status.{Status}
use Rattle.program_lines.specs.declared.status.Status.TheVariants as statuses
use Rattle.duty_journal.specs.declared.fault.JournalFault.{JournalFault}
use Rattle.duty_journal.specs.declared.journal.Journal.{Journal}
use Rattle.duty_journal.specs.Journal.{batches_of}
use Rattle.message_streams.specs.declared.farewell.SessionEnd.{SessionEnd}
use Rattle.router_history.specs.declared.book.Book.{Book}
use Rattle.router_history.specs.History.{Turn}
use Rattle.router_history.specs.Book.{as_opened, opening_on}
use Rattle.router_history.specs.Home.{IsHeld}
use Rattle.book_recovery.specs.Opened.{HasOpenFault, IsOpenedFrom}
use Rattle.journal_check.specs.Check.{status_of_fault}
use Rattle.bus_server.specs.Run.{status_of, Around, IsUnbegun, RunsLinked}

-- The status of a session: `DiskFault` if its book is broken, whatever ended the session.
-- Shown by: program_tests journal.rt: a_disk_that_fails_ends_a_run; status_of_a_broken_book.edit.
abbrev pub status_after : Bool → SessionEnd → Status
status_after true end = statuses.DiskFault
status_after false end = status_of end

-- The status is `status_after`, and the counts of faults of input and output match the session's end.
-- Shown by: program_tests journal.rt: a_disk_that_fails_ends_a_run; status_of_a_broken_book.edit.
abbrev pub EndsJournaled : (Status → Type 0) → Status → SessionEnd → Bool → Type 0
EndsJournaled Counts status end broken = (status ≡ status_after broken end) × Counts (status_of end)

-- The disks that a host gave, each after its path, those that it took back, and its count of faults of disks.
-- Shown by: program_tests journal.rt: a_run_keeps_its_journal.
pub record Disks (D : Type 0) : Type 0 where
  pub given : List (List ℕ × D)
  pub back : List D
  pub faults : ℕ

-- The `Disks` with these parts.
-- Shown by: program_tests journal.rt: a_run_keeps_its_journal.
abbrev pub disks : {D : Type 0} → List (List ℕ × D) → List D → ℕ → Disks D
disks given back faults = record { given = given; back = back; faults = faults }

-- The disk is that of a journal that holds the whole history (`IsHeld`).
-- Shown by: the_journal_is_cut.edit.
abbrev pub LeavesDisk : {D : Type 0} → (D → List DiskCall) → (D → ℕ) → List Turn → D → Type 0
LeavesDisk {D} calls faults turns disk = (j : Journal D) × (disk ≡ j.file.disk) × IsHeld calls faults turns j

-- The turn that opens the book of a journal: it has the batches that were found, and the disk's calls and its count of faults.
-- Shown by: opened_after_the_link.edit.
abbrev pub opening_of : {D : Type 0} → (D → List DiskCall) → (D → ℕ) → Journal D → Turn
opening_of calls faults j = opening_on (batches_of j) (Some (as_opened calls faults j.file.disk))

-- The host gave one disk, at the path, just opened, and took one back, with no fault of its own. `Has` holds of the disk as it was lent, and as
-- it came back. That the disk that came back is the one that was lent is in no field: a run with any type of disk has no other to give back.
-- Shown by: program_tests journal.rt: a_run_keeps_its_journal.
pub record LendsDisk {D : Type 0} (calls : D → List DiskCall) (path : List ℕ) (Has : D → D → Type 0) (old new : Disks D) : Type 0 where
  pub lent : D
  pub returned : D
  pub just_opened : calls lent ≡ []
  pub given : new.given ≡ old.given ++ (path, lent) ∷ []
  pub back : new.back ≡ old.back ++ returned ∷ []
  pub faultless : new.faults ≡ old.faults
  pub has : Has lent returned

-- The host gave no disk, and nothing was begun: it failed, or memory was refused.
-- Shown by: program_tests journal.rt: a_run_without_a_disk_begins_nothing.
pub record IsUnlent {D : Type 0} (Unbegun : Type 0) (old new : Disks D) (status : Status) : Type 0 where
  pub unbegun : Unbegun
  pub none_given : new.given ≡ old.given
  pub none_back : new.back ≡ old.back
  pub cause : ((status ≡ statuses.DiskFault) × Rose old.faults new.faults)
      ⊎ ((status ≡ statuses.NoMemory) × (new.faults ≡ old.faults))

-- No journal was opened on the disk: the status says why, by `HasOpenFault`, and nothing was begun.
-- Shown by: program_tests journal.rt: other_files_are_refused.
pub record IsNotOpened {D : Type 0} (calls : D → List DiskCall) (faults : D → ℕ) (Unbegun : Type 0) (lent returned : D) (status : Status) : Type 0 where
  pub fault : JournalFault
  pub cause : HasOpenFault calls faults (Some lent) (Some returned) fault
  pub is : status ≡ status_of_fault fault
  pub unbegun : Unbegun

-- `calls` and `faults` are what a disk shows, `answered` and `link_faults` what a link shows. `Counts` holds of a status that the counts of
-- faults of input and output match.
module _ {D L : Type 0} (calls : D → List DiskCall) (faults : D → ℕ) (answered : L → List Exchange) (link_faults : L → ℕ) (Counts : Status → Type 0) where
  -- A journal was opened on the disk, but memory ran out, or the host gave no link: nothing was begun, and the disk is that of a journal that
  -- holds what was found.
  -- Shown by: program_tests journal.rt: a_run_without_a_link_changes_nothing.
  pub record IsOnlyOpened (lent returned : D) (old new : Around L) (status : Status) : Type 0 where
    pub book : Book D
    pub opened : IsOpenedFrom calls faults lent book
    pub left : LeavesDisk calls faults (opening_of calls faults opened.journal ∷ []) returned
    pub why : (status ≡ statuses.NoMemory) ⊎ (status ≡ statuses.DoorFault)
    pub unbegun : IsUnbegun old new
    pub counted : Counts status

  -- A journal was opened on the disk, and a session had its book and a link (`RunsLinked`). The disk that comes back is that of a journal that
  -- holds the session's whole history. So what was acknowledged is found again, and a failed append loses nothing.
  -- Shown by: program_tests journal.rt: a_run_keeps_its_journal, a_disk_that_fails_ends_a_run; the_journal_is_cut.edit.
  pub record IsJournaled (now : Option ℕ) (lent returned : D) (old new : Around L) (status : Status) : Type 0 where
    pub book : Book D
    pub opened : IsOpenedFrom calls faults lent book
    pub runs : RunsLinked answered link_faults (opening_of calls faults opened.journal) (EndsJournaled Counts status) now old new
    pub left : LeavesDisk calls faults runs.turns returned

  -- What became of a disk that was just opened: `IsNotOpened`, `IsOnlyOpened` or `IsJournaled`.
  -- Shown by: program_tests journal.rt: other_files_are_refused, a_run_keeps_its_journal.
  abbrev pub HasJournal : Option ℕ → Around L → Around L → Status → D → D → Type 0
  HasJournal now old new status lent returned = IsNotOpened calls faults (IsUnbegun old new × Counts status) lent returned status
      ⊎ (IsOnlyOpened lent returned old new status ⊎ IsJournaled now lent returned old new status)

  -- The run of a program whose journal is the file at the path: `LendsDisk` with `HasJournal`, or `IsUnlent`.
  -- Shown by: program_tests journal.rt: a_run_keeps_its_journal, a_run_without_a_disk_begins_nothing.
  abbrev pub IsJournaledRun : List ℕ → Option ℕ → Disks D → Disks D → Around L → Around L → Status → Type 0
  IsJournaledRun path now old_disks new_disks old new status =
      LendsDisk calls path (HasJournal now old new status) old_disks new_disks ⊎ IsUnlent (IsUnbegun old new × Counts status) old_disks new_disks status
