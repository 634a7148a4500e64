-- From the clauses of `Journal::recover` and `Book::opened` to those of `recover_book`: `opened_from`, `starved`, `unopened`.
use Rattle.std.proofs.Common.{◌≡◌, ℕ, List, [], ◌∷◌, Option, Some, Err, refl, sym, ap, ◌∙◌, subst, inr}
use Rattle.router_disk.specs.declared.disk_call.DiskCall.{DiskCall}
use Rattle.router_disk.specs.Disk.{AreAnswers}
use Rattle.record_file.specs.Kept.{IsOpened}
use Rattle.record_file.specs.State.{Counts}
use Rattle.router_requests.specs.Batch.{Batch}
use Rattle.router_core.specs.Tables.{first_tables}
use Rattle.duty_journal.specs.declared.fault.JournalFault.{JournalFault}
use Rattle.duty_journal.specs.declared.fault.JournalFault.TheVariants.{Failed, NoMemory}
use Rattle.duty_journal.specs.declared.home.Home.TheVariants as homes
use Rattle.duty_journal.specs.declared.journal.Journal.{Journal}
use Rattle.duty_journal.specs.Journal.{batches_of}
use Rattle.duty_journal.specs.Recovery.{HasFault, HasOpened, IsStoppedOpening, outcome_of}
use Rattle.router_history.specs.declared.book.Book.{Book}
use Rattle.router_history.specs.Book.{turns_of, as_opened, opening_on}
use Rattle.book_recovery.specs.Opened.{HasOpenFault, IsInFile, IsOpenedFrom}

-- what is known of a journal that was just opened
abbrev pub Opens : {D : Type 0} → (D → List DiskCall) → Journal D → List Batch → Type 0
Opens calls j found = (first : List ℕ) → AreAnswers first (calls j.file.disk) → HasOpened first (calls j.file.disk) found

module _ {D : Type 0} (calls : D → List DiskCall) (faults : D → ℕ) where
  pub opened_from : (disk : D) (b : Book D) (j : Journal D) (found : List Batch) → b.home ≡ homes.Journal j
      → turns_of b.machine ≡ opening_on found (Some (as_opened calls faults j.file.disk)) ∷ [] → batches_of j ≡ found → faults j.file.disk ≡ faults disk
      → Opens calls j found → IsOpenedFrom calls faults disk b
  opened_from disk b j found home turns own count has = record {
    journal = j;
    home = home;
    turns = turns ∙ ap (λ (bs : List Batch). opening_on bs (Some (as_opened calls faults j.file.disk)) ∷ []) (sym own);
    count = count;
    found = subst (Opens calls j) (sym own) has;
  }

  -- memory ran out after the journal was opened
  pub starved : (disk : D) (j k : Journal D) (found : List Batch) (back : Option D) → k ≡ j → back ≡ Some k.file.disk → faults j.file.disk ≡ faults disk
      → Counts (faults disk) (faults j.file.disk) (outcome_of {T = Unit {0}} (Err NoMemory)) → Opens calls j found → HasOpenFault calls faults (Some disk) back NoMemory
  starved disk j k found back same is same_count count has =
      subst (λ (x : Journal D). back ≡ Some x.file.disk → HasOpenFault calls faults (Some disk) back NoMemory) (sym same)
      (λ e. (
        j.file.disk,
        e,
        record { cause = tt; unwritten = λ in_file. absurd in_file; stopped = inr (λ first answers. (has first answers).file); count = count },
      )) is

  -- the journal could not be opened
  pub unopened : (disk back : D) (fault : JournalFault) → HasFault first_tables (calls back) fault → (¬ (fault ≡ Failed) → IsOpened (calls back) 1)
      → IsStoppedOpening (calls back) → Counts (faults disk) (faults back) (outcome_of {T = Unit {0}} (Err fault))
      → HasOpenFault calls faults (Some disk) (Some back) fault
  unopened disk back fault cause unwritten stopped count =
      (back, refl, record { cause = cause; unwritten = λ in_file. unwritten (λ failed. absurd (subst IsInFile failed in_file)); stopped = stopped; count = count })
