-- Where the batches of a history are appended.
use Rattle.std.specs.Prelude.{◌≡◌, ℕ, ◌+◌, ◌*◌, ◌≤◌, true, false, List, [], ◌∷◌, ◌++◌, length, Some, None}
use Rattle.router_disk.specs.declared.disk_call.DiskCall.{DiskCall}
use Rattle.router_disk.specs.Disk.{AreAnswers}
use Rattle.router_disk.specs.Faults.{Rose}
use Rattle.router_requests.specs.Batch.{Batch}
use Rattle.router_core.specs.Tables.{first_tables}
use Rattle.duty_journal.specs.declared.journal.Journal as journals
use Rattle.duty_journal.specs.declared.home.Home.{Home}
use Rattle.duty_journal.specs.declared.home.Home.TheVariants.{Nowhere, Journal}
use Rattle.duty_journal.specs.Journal as journal
use Rattle.duty_journal.specs.Journal.{AreKept, AreRecordable, IsSoundJournal}
use Rattle.router_history.specs.declared.book.Book.{Book}
use Rattle.router_history.specs.History.{OpenedDisk, Turn, state_of, found_by, batches_of, unacknowledged_of}
use Rattle.router_history.specs.Book.{turns_of, IsSoundMachine}

-- The batches that the first turn of a history found.
-- Shown by: proofs alone.
abbrev pub found_of : List Turn → List Batch
found_of [] = []
found_of (turn ∷ turns) = found_by turn.ask

-- The batches that were appended since the opening: those of the turns after the first.
-- Shown by: proofs alone.
abbrev pub appended_of : List Turn → List Batch
appended_of [] = []
appended_of (turn ∷ turns) = batches_of turns

-- Each batch that was appended has a call of the disk from which on every image has it and all before it: each image since then is a journal of at
-- least these batches. `was` is the number of calls when the book was opened: from four calls later on the first batch is in every image, and each
-- other one from four calls after the batch before it. If the book is not broken, the last call is that of the last batch.
-- Shown by: proofs alone.
pub record KeepsEach (was : ℕ) (calls : List DiskCall) (turns : List Turn) : Type 0 where
  pub past : was + 4 * length (appended_of turns) ≤ length calls
  pub made : (state_of turns).broken ≡ false → length calls ≡ was + 4 * length (appended_of turns)
  pub each : (first : List ℕ) → AreAnswers first calls → (before after : List Batch) → appended_of turns ≡ before ++ after
      → AreKept first calls first_tables (found_of turns ++ before) (was + 4 * length before) (batches_of turns) (batches_of turns ++ unacknowledged_of turns)

-- A journal has the batches of a history, and no others. It can be opened again, whatever it has of the batches whose append failed. It is broken
-- if the history has the mark. Its disk counted a fault since the opening exactly then. Each image since the first sync of the opening is a
-- journal of the batches that were found, and of later ones in order; each that a crash now may leave has all batches of the history. The disk's calls
-- begin with those that it had made when the book was opened, and each batch has a call from which on it is in every image (`KeepsEach`).
-- Shown by: the_journal_has_another_outcome.edit.
pub record IsHeld {D : Type 0} (calls : D → List DiskCall) (faults : D → ℕ) (turns : List Turn) (j : journals.Journal D) : Type 0 where
  pub sound : IsSoundJournal calls j
  pub batches : journal.batches_of j ≡ batches_of turns
  pub recordable : AreRecordable first_tables (batches_of turns ++ unacknowledged_of turns)
  pub broken : j.file.broken ≡ (state_of turns).broken
  pub opened : OpenedDisk
  pub disk : (state_of turns).disk ≡ Some opened
  pub began : (later : List DiskCall) × (calls j.file.disk ≡ opened.calls ++ later)
  pub rose : (state_of turns).broken ≡ true → Rose opened.faults (faults j.file.disk)
  pub same : (state_of turns).broken ≡ false → faults j.file.disk ≡ opened.faults
  pub kept : (first : List ℕ) → AreAnswers first (calls j.file.disk)
      → AreKept first (calls j.file.disk) first_tables (found_of turns) 1 (batches_of turns) (batches_of turns ++ unacknowledged_of turns)
  pub each : KeepsEach (length opened.calls) (calls j.file.disk) turns

-- The batches of a history are appended here, if there is a journal. Without one the history was opened without one.
-- Shown by: proofs alone.
abbrev pub IsHome : {D : Type 0} → (D → List DiskCall) → (D → ℕ) → List Turn → Home D → Type 0
IsHome calls faults turns Nowhere = (state_of turns).disk ≡ None
IsHome calls faults turns (Journal j) = IsHeld calls faults turns j

-- What holds of a book between turns: of its machine (`IsSoundMachine`), and of where its batches are appended.
-- Shown by: the_batch_is_not_entered.edit.
pub record IsSoundBook {D : Type 0} (calls : D → List DiskCall) (faults : D → ℕ) (b : Book D) : Type 0 where
  pub kept : IsSoundMachine b.machine
  pub home : IsHome calls faults (turns_of b.machine) b.home
