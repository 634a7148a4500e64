-- What opening the router's book finds.
use Rattle.std.specs.Prelude.{◌≡◌, ℕ, List, [], ◌∷◌, Option, Some, None, Err, ⊤}
use Rattle.router_disk.specs.declared.disk_call.DiskCall.{DiskCall}
use Rattle.router_disk.specs.Disk.{AreAnswers}
use Rattle.record_file.specs.Kept.{IsOpened}
use Rattle.record_file.specs.State.{Counts}
use Rattle.router_core.specs.Tables.{first_tables}
use Rattle.duty_journal.specs.declared.fault.JournalFault.{JournalFault}
use Rattle.duty_journal.specs.declared.fault.JournalFault.TheVariants.{NotOurs, Damaged, Failed, NoMemory}
use Rattle.duty_journal.specs.declared.home.Home.TheVariants as homes
use Rattle.duty_journal.specs.declared.journal.Journal.{Journal}
use Rattle.duty_journal.specs.Journal.{batches_of}
use Rattle.duty_journal.specs.Recovery.{HasFault, HasOpened, IsStoppedOpening, outcome_of}
use Rattle.router_history.specs.declared.book.Book.{Book}
use Rattle.router_history.specs.Book.{turns_of, as_opened, opening, opening_on}

-- The book is that of the journal on this disk. Its one turn has the batches that the file held, and the disk as it is once the journal is open: its
-- calls, and its count of faults, which is as before. `HasOpened` says what the file was, and what a crash since may leave.
-- Shown by: session_tests journaled.rt: a_book_is_opened_from_its_journal.
pub record IsOpenedFrom {D : Type 0} (calls : D → List DiskCall) (faults : D → ℕ) (disk : D) (b : Book D) : Type 0 where
  pub journal : Journal D
  pub home : b.home ≡ homes.Journal journal
  pub turns : turns_of b.machine ≡ opening_on (batches_of journal) (Some (as_opened calls faults journal.file.disk)) ∷ []
  pub count : faults journal.file.disk ≡ faults disk
  pub found : (first : List ℕ) → AreAnswers first (calls journal.file.disk) → HasOpened first (calls journal.file.disk) (batches_of journal)

-- The same; without a disk the book has the first tables and no journal.
-- Shown by: session_tests journaled.rt: a_book_is_opened_from_its_journal.
abbrev pub IsOpenedOn : {D : Type 0} → (D → List DiskCall) → (D → ℕ) → Option D → Book D → Type 0
IsOpenedOn calls faults None b = (b.home ≡ homes.Nowhere) × (turns_of b.machine ≡ opening ∷ [])
IsOpenedOn calls faults (Some disk) b = IsOpenedFrom calls faults disk b

-- The fault is in what the file has.
-- Shown by: proofs alone.
abbrev pub IsInFile : JournalFault → Type 0
IsInFile NotOurs = ⊤
IsInFile (Damaged place byte) = ⊤
IsInFile Failed = ⊥
IsInFile NoMemory = ⊥

-- Why no book was opened from a disk, and what became of the disk. If the fault is in what the file has, nothing was written.
-- Shown by: session_tests journaled.rt: a_book_is_opened_from_its_journal.
pub record IsUnopened {D : Type 0} (calls : D → List DiskCall) (faults : D → ℕ) (disk back : D) (fault : JournalFault) : Type 0 where
  pub cause : HasFault first_tables (calls back) fault
  pub unwritten : IsInFile fault → IsOpened (calls back) 1
  pub stopped : IsStoppedOpening (calls back)
  pub count : Counts (faults disk) (faults back) (outcome_of {T = Unit {0}} (Err fault))

-- Why no book was opened. The disk comes back; without one the fault is `NoMemory`.
-- Shown by: session_tests journaled.rt: a_book_is_opened_from_its_journal.
abbrev pub HasOpenFault : {D : Type 0} → (D → List DiskCall) → (D → ℕ) → Option D → Option D → JournalFault → Type 0
HasOpenFault calls faults None back fault = (back ≡ None) × (fault ≡ NoMemory)
HasOpenFault {D} calls faults (Some disk) back fault = (d : D) × (back ≡ Some d) × IsUnopened calls faults disk d fault
