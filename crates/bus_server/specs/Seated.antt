-- For private clauses alone: a session over a book of one turn.
use Rattle.std.specs.Prelude.{◌≡◌, ℕ, ◌⊎◌, List, [], ◌∷◌, Option, Some, None}
use Rattle.router_disk.specs.declared.disk_call.DiskCall.{DiskCall}
use Rattle.router_disk.specs.Link.{Exchange}
use Rattle.turn_book.specs.Passes.{view, IsFree}
use Rattle.program_lines.specs.declared.status.Status.{Status}
use Rattle.program_lines.specs.declared.status.Status.TheVariants as statuses
use Rattle.router_history.specs.History.{Turn, state_of, turns_by}
use Rattle.router_history.specs.Book.{IsBook, Rests}
use Rattle.router_sessions.specs.Desk.{Known, number_of, turns_seen}
use Rattle.bus_server.specs.Run.{Around, IsUnbegun, RunsLinked}
use Rattle.bus_server.specs.Journal.{EndsJournaled, LeavesDisk}

-- the pass of a hall that was just made, which has seen a book's first turn
pub record IsOpener {V : Type 0} (known : Known V) : Type 0 where
  pub number : number_of known ≡ 0
  pub made : (view known).made ≡ 1
  pub free : IsFree known
  pub book : IsBook (turns_seen known)
  pub rests : Rests 0 (turns_seen known)
  pub unmade : turns_by 0 (turns_seen known) ≡ []

-- the disk of the journal that holds a history, if there is one
abbrev pub LeavesHome : {D : Type 0} → (D → List DiskCall) → (D → ℕ) → List Turn → Option D → Type 0
LeavesHome calls faults turns None = (state_of turns).disk ≡ None
LeavesHome calls faults turns (Some disk) = LeavesDisk calls faults turns disk

module _ {D L : Type 0} (calls : D → List DiskCall) (faults : D → ℕ) (answered : L → List Exchange) (link_faults : L → ℕ) (Counts : Status → Type 0) where
  -- a session had the book and a link
  pub record IsSeated (start : Turn) (now : Option ℕ) (old new : Around L) (disk : Option D) (status : Status) : Type 0 where
    pub runs : RunsLinked answered link_faults start (EndsJournaled Counts status) now old new
    pub left : LeavesHome calls faults runs.turns disk

  -- nothing was begun
  pub record IsUnseated (start : Turn) (old new : Around L) (disk : Option D) (status : Status) : Type 0 where
    pub why : (status ≡ statuses.NoMemory) ⊎ (status ≡ statuses.DoorFault)
    pub unbegun : IsUnbegun old new
    pub left : LeavesHome calls faults (start ∷ []) disk
    pub counted : Counts status

  abbrev pub Sits : Turn → Option ℕ → Around L → Around L → Option D → Status → Type 0
  Sits start now old new disk status = IsSeated start now old new disk status ⊎ IsUnseated start old new disk status
