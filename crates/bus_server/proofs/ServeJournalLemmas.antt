-- A program that serves over the book of a journal, or over a new book. Other files cite `serve_whole`, `serve_some`, `serve_has`, `serve_unopened`,
-- `same_around` and `no_usage_served`.
use Rattle.std.proofs.Common.{◌≡◌, ℕ, inl, inr, Bool, List, [], ◌∷◌, map, Option, Some, refl, sym, ap, ◌∙◌, subst}
use Rattle.std.specs.Prelude.{IsSome}
use Rattle.router_disk.specs.declared.disk_call.DiskCall.{DiskCall}
use Rattle.router_core.specs.Tables.{first_tables}
use Rattle.program_lines.specs.declared.status.Status.{Status}
use Rattle.duty_journal.specs.declared.fault.JournalFault.{JournalFault}
use Rattle.duty_journal.specs.declared.journal.Journal.{Journal}
use Rattle.duty_journal.specs.Journal.{batches_of}
use Rattle.shared_door.specs.Shown.{Shown}
use Rattle.door_workers.specs.Serving.{Session}
use Rattle.router_history.specs.declared.book.Book.{Book}
use Rattle.router_history.specs.declared.history.Turn.{Turn}
use Rattle.router_history.specs.History as history
use Rattle.router_history.specs.History.{begun_with, state_of}
use Rattle.router_history.specs.Book.{turn_of, as_opened, opening, IsBook}
use Rattle.router_history.proofs.BookLemmas.{disk_of, whole_of}
use Rattle.book_recovery.specs.Opened.{HasOpenFault, IsOpenedFrom}
use Rattle.journal_check.specs.Check.{status_of_fault}
use Rattle.bus_server.specs.Journal.{LeavesDisk, opening_of}
use Rattle.bus_server.specs.Seated.{LeavesHome}
use Rattle.bus_server.specs.Serve.{AroundDoor, AtDoor, around_door, IsOpened, IsServe, IsServeOn, IsUnbroken}
use Rattle.bus_server.specs.ServeJournal.{HasServing}
use Rattle.bus_server.proofs.RunLemmas.{first_disk}
use Rattle.bus_server.proofs.JournalLemmas.{found_disk, left_some}

-- the same parts around a door
pub same_around : {D L C : Type 0} (written : List ℕ) (doors doors_new : List (ℕ × D)) (doors_back doors_back_new : List D) (links links_new links_back links_back_new : List L)
    (clocks clocks_back : List C) (door_faults door_faults_new link_faults link_faults_new : ℕ) → doors ≡ doors_new → doors_back ≡ doors_back_new → links ≡ links_new
    → links_back ≡ links_back_new → door_faults ≡ door_faults_new → link_faults ≡ link_faults_new
    → around_door written doors doors_back links links_back clocks clocks_back door_faults link_faults
    ≡ around_door written doors_new doors_back_new links_new links_back_new clocks clocks_back door_faults_new link_faults_new
same_around written doors doors_new doors_back doors_back_new links links_new links_back links_back_new clocks clocks_back door_faults door_faults_new link_faults
    link_faults_new d db l lb df lf = λ i. around_door written (d i) (db i) (l i) (lb i) clocks clocks_back (df i) (lf i)

pub same_written : {D L C : Type 0} (written written_new : List ℕ) (doors : List (ℕ × D)) (doors_back : List D) (links links_back : List L) (clocks clocks_back : List C)
    (door_faults link_faults : ℕ) → written_new ≡ written → around_door written_new doors doors_back links links_back clocks clocks_back door_faults link_faults
    ≡ around_door written doors doors_back links links_back clocks clocks_back door_faults link_faults
same_written written written_new doors doors_back links links_back clocks clocks_back door_faults link_faults same =
    λ i. around_door (same i) doors doors_back links links_back clocks clocks_back door_faults link_faults

-- the disk that the first turn has is that of the state
disk_opened : (start : history.Turn) (turns later : List history.Turn) → IsBook turns → turns ≡ start ∷ later → (state_of turns).disk ≡ first_disk (start ∷ [])
disk_opened start turns later book opened = disk_of turns book ∙ sym (ap first_disk book.opened) ∙ ap first_disk opened

module _ {D L C I O : Type 0} (show : D → Shown I O) (fits : ℕ → I × O → I × O → Bool → List Turn → List Turn → Type 0)
    (did : ℕ → L × C → L × C → List (Session I O Turn) → List Turn → Type 0) (start : history.Turn) (K1 K2 : List history.Turn → Type 0) where
  opened_weaker : (connections : Option ℕ) (old new : AtDoor D (L × C)) (status : Status)
      → ((turns later : List history.Turn) → IsBook turns → turns ≡ start ∷ later → K1 turns → K2 turns)
      → IsOpened show fits did start K1 connections old new status → IsOpened show fits did start K2 connections old new status
  opened_weaker connections old new status f o = record {
    turns = o.turns;
    book = o.book;
    later = o.later;
    opened = o.opened;
    kept = f (map turn_of o.turns) o.later o.book o.opened o.kept;
    end = o.end;
    served = o.served;
    crew = o.crew;
    lent_are = o.lent_are;
    owns_are = o.owns_are;
    distinct = o.distinct;
    each = o.each;
    makers = o.makers;
    none_open = o.none_open;
    ends = o.ends;
  }

  pub serve_weaker : (port workers : ℕ) (connections : Option ℕ) (old new : AroundDoor D L C) (status : Status)
      → ((turns later : List history.Turn) → IsBook turns → turns ≡ start ∷ later → K1 turns → K2 turns) → (K1 (start ∷ []) → K2 (start ∷ []))
      → IsServeOn show fits did start K1 port workers connections old new status → IsServeOn show fits did start K2 port workers connections old new status
  serve_weaker port workers connections old new status f one (inl s) = inl (record {
    lent = s.lent;
    returned = s.returned;
    doors = s.doors;
    doors_back = s.doors_back;
    owns = s.owns;
    owns_back = s.owns_back;
    links = s.links;
    links_back = s.links_back;
    clocks = s.clocks;
    clocks_back = s.clocks_back;
    each_worker = s.each_worker;
    all_back = s.all_back;
    faultless = s.faultless;
    opened = opened_weaker connections _ _ status f s.opened;
  })
  serve_weaker port workers connections old new status f one (inr (s, kept)) = inr (s, one kept)

module _ {J D L C I O : Type 0} (calls : J → List DiskCall) (faults : J → ℕ) (show : D → Shown I O)
    (fits : ℕ → I × O → I × O → Bool → List Turn → List Turn → Type 0) (did : ℕ → L × C → L × C → List (Session I O Turn) → List Turn → Type 0) where
  -- without a journal the book is not broken
  pub serve_whole : (disk : Option J) (port workers : ℕ) (connections : Option ℕ) (old new : AroundDoor D L C) (status : Status)
      → IsServeOn show fits did opening (λ turns. LeavesHome calls faults turns disk) port workers connections old new status
      → IsServe show fits did port workers connections old new status
  serve_whole disk port workers connections old new status is =
      serve_weaker show fits did opening (λ turns. LeavesHome calls faults turns disk) IsUnbroken port workers connections old new status
      (λ turns later book opened kept. whole_of turns book (disk_opened opening turns later book opened)) (λ kept. refl) is

  -- the book of a journal leaves a disk
  pub serve_some : (j : Journal J) (disk : Option J) (port workers : ℕ) (connections : Option ℕ) (old new : AroundDoor D L C) (status : Status)
      → IsServeOn show fits did (opening_of calls faults j) (λ turns. LeavesHome calls faults turns disk) port workers connections old new status → IsSome disk
  serve_some j disk port workers connections old new status (inl s) =
      let o = s.opened in
      left_some calls faults (map turn_of o.turns) (as_opened calls faults j.file.disk) disk (disk_opened (opening_of calls faults j) (map turn_of o.turns) o.later o.book o.opened) o.kept
  serve_some j disk port workers connections old new status (inr (s, kept)) =
      let opened : history.OpenedDisk = as_opened calls faults j.file.disk in
      left_some calls faults (opening_of calls faults j ∷ []) opened disk (found_disk (batches_of j) (begun_with (Some opened) first_tables)) kept

  pub serve_has : (lent returned : J) (disk : Option J) (port workers : ℕ) (connections : Option ℕ) (old new : AroundDoor D L C) (status : Status) (book : Book J)
      (opened : IsOpenedFrom calls faults lent book) → disk ≡ Some returned
      → IsServeOn show fits did (opening_of calls faults opened.journal) (λ turns. LeavesHome calls faults turns disk) port workers connections old new status
      → HasServing calls faults show fits did port workers connections old new status lent returned
  serve_has lent returned disk port workers connections old new status book opened same is = inr (record {
    book = book;
    opened = opened;
    serves = serve_weaker show fits did (opening_of calls faults opened.journal) (λ turns. LeavesHome calls faults turns disk)
        (λ turns. LeavesDisk calls faults turns returned) port workers connections old new status (λ turns later is_book is_opened kept. subst (LeavesHome calls faults turns) same kept)
        (λ kept. subst (LeavesHome calls faults (opening_of calls faults opened.journal ∷ [])) same kept) is;
  })

  pub serve_unopened : (lent returned : J) (back : Option J) (fault : JournalFault) (port workers : ℕ) (connections : Option ℕ) (around : AroundDoor D L C) (status : Status)
      → HasOpenFault calls faults (Some lent) back fault → back ≡ Some returned → status ≡ status_of_fault fault
      → HasServing calls faults show fits did port workers connections around around status lent returned
  serve_unopened lent returned back fault port workers connections around status cause same by = inl (record {
    fault = fault;
    cause = subst (λ (o : Option J). HasOpenFault calls faults (Some lent) o fault) same cause;
    is = by;
    unbegun = refl;
  })
