-- A book that was just opened: `opened_turns`, `opened_machine`, `opened_home`; the first book, `none_found`.
use Rattle.std.proofs.Common.{◌≡◌, ℕ, false, List, [], ◌∷◌, ◌++◌, Option, Some, None, refl, sym, ap, ◌∙◌, subst, append-nil}
use Rattle.std.specs.Option.{option_map}
use Rattle.std.proofs.lemmas.Bool.{true≢false}
use Rattle.router_disk.specs.declared.disk_call.DiskCall.{DiskCall}
use Rattle.router_disk.specs.Disk.{AreAnswers}
use Rattle.turn_book.specs.Rule.{turns_by}
use Rattle.router_core.specs.Admitted.{AreBatchesAdmitted}
use Rattle.router_requests.specs.Batch.{Batch}
use Rattle.router_core.specs.Tables.{Tables, first_tables, tables_after, after_batch}
use Rattle.duty_journal.specs.declared.journal.Journal as journals
use Rattle.duty_journal.specs.declared.recover.Found.{Found}
use Rattle.duty_journal.specs.Journal as journal
use Rattle.duty_journal.specs.Journal.{AreRecordable, IsSoundJournal}
use Rattle.duty_journal.specs.Recovery.{HasOpened, IsFound, batches_found}
use Rattle.router_history.specs.declared.opened_disk.OpenedDisk.{OpenedDisk as CodeDisk}
use Rattle.router_history.specs.declared.history.Ask.{Ask as CodeAsk}
use Rattle.router_history.specs.declared.history.Turn.{Turn as CodeTurn}
use Rattle.router_history.specs.declared.history.Written.{Written}
use Rattle.router_history.specs.declared.book.Machine.{Machine}
use Rattle.router_history.specs.History.{OpenedDisk, Turn, State, IsLegal, begun_with, batches_of, state_of, unacknowledged_of}
use Rattle.router_history.specs.Book.{turns_of, as_opened, opened_of, opening_on, IsBook, IsSoundMachine}
use Rattle.router_history.specs.Home.{IsHeld, found_of, appended_of}
use Rattle.router_history.proofs.SteadyLemmas.{found_disk, found_whole}
use Rattle.router_history.proofs.FoldLemmas.{found_tables}
use Rattle.router_history.proofs.EachLemmas.{kept_as, each_opened}

-- ---- the machine

pub opened_turns : (old new : List Turn) (found : List Batch) (disk : Option OpenedDisk) → old ≡ [] → new ≡ old ++ opening_on found disk ∷ [] → new ≡ opening_on found disk ∷ []
opened_turns old new found disk none turns = turns ∙ ap (λ (ts : List Turn). ts ++ opening_on found disk ∷ []) none

-- the opening turn is no pass's
pub opened_unmade : (old new : List CodeTurn) (connection : Option ℕ) (ask : CodeAsk) (k : ℕ) (written : Written) (n : ℕ) → old ≡ []
    → new ≡ old ++ record { pass = None; connection = connection; ask = ask; k = k; written = written } ∷ [] → turns_by (λ (t : CodeTurn). t.pass) n new ≡ []
opened_unmade old new connection ask k written n none turns =
    ap (turns_by (λ (t : CodeTurn). t.pass) n)
    (turns ∙ ap (λ (ts : List CodeTurn). ts ++ record { pass = None; connection = connection; ask = ask; k = k; written = written } ∷ []) none)

recordable_lawful : (t : Tables) (bs : List Batch) → AreRecordable t bs → AreBatchesAdmitted t bs
recordable_lawful t [] are = tt
recordable_lawful t (b ∷ bs) (readable, admitted, more) = (admitted, recordable_lawful (after_batch b t) bs more)

book_opened : (turns : List Turn) (found : List Batch) (disk : Option OpenedDisk) → turns ≡ opening_on found disk ∷ [] → AreBatchesAdmitted first_tables found
    → (disk ≡ None → found ≡ []) → IsBook turns
book_opened turns found disk is lawful none = record {
  found = found;
  disk = disk;
  later = [];
  opened = is;
  legal = subst IsLegal (sym is) (
    record {
      start = first_tables;
      found = found;
      disk = disk;
      ask = refl;
      lawful = lawful;
      none_found = none;
      no_pass = refl;
      no_connection = refl;
      k = refl;
      unwritten = refl;
    },
    tt,
  );
}

none_opened : (disk : Option CodeDisk) → option_map opened_of disk ≡ None → disk ≡ None
none_opened None none = refl
none_opened (Some d) none = absurd (cc (none))

pub opened_machine : (m : Machine) (f : Found) (disk : Option CodeDisk) → turns_of m ≡ opening_on (batches_found f) (option_map opened_of disk) ∷ []
    → m.tables ≡ f.tables → IsFound first_tables f → (disk ≡ None → batches_found f ≡ []) → IsSoundMachine m
opened_machine m f disk turns tables is none =
    let first : Option OpenedDisk = option_map opened_of disk in
    record {
      book = book_opened (turns_of m) (batches_found f) first turns (recordable_lawful first_tables (batches_found f) is.recordable)
          (λ nowhere. none (none_opened disk nowhere));
      tables = ap (λ (ts : List Turn). (state_of ts).tables) turns ∙ found_tables (batches_found f) (begun_with first first_tables) ∙ sym is.tables ∙ sym tables;
    }

-- the first tables, on which nothing was found
pub none_found : (f : Found) → batches_found f ≡ [] → f.tables ≡ first_tables → IsFound first_tables f
none_found f none tables = record {
  recordable = subst (AreRecordable first_tables) (sym none) tt;
  tables = tables ∙ sym (ap (λ (bs : List Batch). tables_after bs first_tables) none);
}

-- ---- its journal

pub opened_home : {D : Type 0} (calls : D → List DiskCall) (faults : D → ℕ) (turns : List Turn) (j : journals.Journal D) (found : List Batch)
    → turns ≡ opening_on found (Some (as_opened calls faults j.file.disk)) ∷ [] → AreRecordable first_tables found → journal.batches_of j ≡ found → j.file.broken ≡ false
    → IsSoundJournal calls j → ((first : List ℕ) → AreAnswers first (calls j.file.disk) → HasOpened first (calls j.file.disk) found) → IsHeld calls faults turns j
opened_home calls faults turns j found is are own whole sound has =
    let opened : OpenedDisk = as_opened calls faults j.file.disk in
    let first_state : State = begun_with (Some opened) first_tables in
    let batches : batches_of turns ≡ found = ap batches_of is ∙ append-nil found in
    let none : unacknowledged_of turns ≡ [] = ap unacknowledged_of is in
    let all : batches_of turns ++ unacknowledged_of turns ≡ found = ap (λ bs. batches_of turns ++ bs) none ∙ append-nil (batches_of turns) ∙ batches in
    let unbroken : (state_of turns).broken ≡ false = ap (λ (ts : List Turn). (state_of ts).broken) is ∙ found_whole found first_state in
    record {
      sound = sound;
      batches = own ∙ sym batches;
      recordable = subst (AreRecordable first_tables) (sym all) are;
      broken = whole ∙ sym unbroken;
      opened = opened;
      disk = ap (λ (ts : List Turn). (state_of ts).disk) is ∙ found_disk found first_state;
      began = ([], sym (append-nil (calls j.file.disk)));
      rose = λ broken. absurd (true≢false (sym broken ∙ unbroken));
      same = λ still. refl;
      kept = λ first answers.
          kept_as first (calls j.file.disk) 1 found (found_of turns) found (batches_of turns) found (batches_of turns ++ unacknowledged_of turns) (ap found_of is)
          batches all (has first answers).kept;
      each = each_opened (calls j.file.disk) turns found (ap found_of is) batches (ap appended_of is) all (λ first answers. (has first answers).kept);
    }
