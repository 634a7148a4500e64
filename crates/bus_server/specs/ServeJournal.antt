-- A run of `serve` whose changes are appended to a journal.
use Rattle.std.specs.Prelude.{◌≡◌, ℕ, ◌⊎◌, Bool, List, Option}
use Rattle.router_disk.specs.declared.disk_call.DiskCall.{DiskCall}
use Rattle.program_lines.specs.declared.status.Status.{Status}
use Rattle.shared_door.specs.Shown.{Shown}
use Rattle.door_workers.specs.Serving.{Session}
use Rattle.router_history.specs.declared.book.Book.{Book}
use Rattle.router_history.specs.declared.history.Turn.{Turn}
use Rattle.book_recovery.specs.Opened.{IsOpenedFrom}
use Rattle.bus_server.specs.Journal.{Disks, IsNotOpened, IsUnlent, LeavesDisk, LendsDisk, opening_of}
use Rattle.bus_server.specs.Serve.{AroundDoor, IsServeOn}

-- `calls` and `faults` are what a disk shows, and the others are as in `IsServe`.
module _ {J D L C I O : Type 0} (calls : J → List DiskCall) (faults : J → ℕ) (show : D → Shown I O)
    (fits : ℕ → I × O → I × O → Bool → List Turn → List Turn → Type 0) (did : ℕ → L × C → L × C → List (Session I O Turn) → List Turn → Type 0) where
  -- A journal was opened on the disk, and the program served its book (`IsServeOn`), or served nothing (`IsUnserved`). The disk that comes
  -- back is that of a journal that holds the whole history. So what was acknowledged is found again, and a failed append loses nothing.
  -- Shown by: program_tests journal.rt: workers_keep_a_journal.
  pub record ServesJournal (port workers : ℕ) (connections : Option ℕ) (old new : AroundDoor D L C) (status : Status) (lent returned : J) : Type 0 where
    pub book : Book J
    pub opened : IsOpenedFrom calls faults lent book
    pub serves : IsServeOn show fits did (opening_of calls faults opened.journal) (λ turns. LeavesDisk calls faults turns returned) port workers connections old new status

  -- What became of a disk that was just opened: no journal was opened on it, and nothing was begun, or `ServesJournal`.
  -- Shown by: program_tests journal.rt: workers_keep_a_journal.
  abbrev pub HasServing : ℕ → ℕ → Option ℕ → AroundDoor D L C → AroundDoor D L C → Status → J → J → Type 0
  HasServing port workers connections old new status lent returned =
      IsNotOpened calls faults (new ≡ old) lent returned status ⊎ ServesJournal port workers connections old new status lent returned

  -- The run of a program that serves, whose journal is the file at the path.
  -- Shown by: program_tests journal.rt: workers_keep_a_journal.
  abbrev pub IsJournaledServe : List ℕ → ℕ → ℕ → Option ℕ → Disks J → Disks J → AroundDoor D L C → AroundDoor D L C → Status → Type 0
  IsJournaledServe path port workers connections old_disks new_disks old new status =
      LendsDisk calls path (HasServing port workers connections old new status) old_disks new_disks ⊎ IsUnlent (new ≡ old) old_disks new_disks status
