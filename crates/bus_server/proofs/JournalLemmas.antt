-- A run with a journal. Other files cite `some_disk`, `some_back`, `has_journal`, `not_opened` (its disk), `fault_apart`,
-- `opening_apart`, `counts_apart` (its status), `matches_apart`, `matches_around`, `has_links`, `lends`, `unlent`, `unread_disk` (its host) and `no_usage_journaled`.
use Rattle.std.proofs.Common.{◌≡◌, ◌≢◌, ℕ, ◌⊎◌, inl, inr, Bool, List, [], ◌∷◌, ◌++◌, Option, Some, None, refl, sym, ap, ◌∙◌, subst}
use Rattle.std.specs.Prelude.{IsSome, Err}
use Rattle.router_disk.specs.declared.disk_call.DiskCall.{DiskCall}
use Rattle.router_disk.specs.Faults.{CountsFaults, Rose}
use Rattle.router_disk.specs.Link.{Exchange}
use Rattle.bus_host.specs.declared.host.HostFault.{HostFault}
use Rattle.bus_host.specs.declared.host.HostFault.TheVariants as host
use Rattle.bus_host.specs.HostFault.{host_outcome}
use Rattle.router_requests.specs.Batch.{Batch}
use Rattle.router_core.specs.Tables.{first_tables}
use Rattle.program_lines.specs.declared.status.Status.{Status}
use Rattle.program_lines.specs.declared.status.Status.TheVariants as statuses
use Rattle.duty_journal.specs.declared.fault.JournalFault.{JournalFault}
use Rattle.duty_journal.specs.declared.fault.JournalFault.TheVariants as faults
use Rattle.duty_journal.specs.declared.journal.Journal.{Journal}
use Rattle.duty_journal.specs.Journal.{batches_of}
use Rattle.message_streams.specs.declared.farewell.SessionEnd.{SessionEnd}
use Rattle.router_history.specs.declared.book.Book.{Book}
use Rattle.router_history.specs.History.{OpenedDisk, Turn, State, after_all, after_written, begun_with, state_of}
use Rattle.router_history.specs.Book.{as_opened}
use Rattle.router_history.specs.Acts.{World}
use Rattle.book_recovery.specs.Opened.{HasOpenFault, IsOpenedFrom}
use Rattle.journal_check.specs.Check.{status_of_fault, status_of_opening}
use Rattle.bus_server.specs.Run.{Around, around, FaultsMatch, HostMatches, IsUnbegun, RunsBy}
use Rattle.bus_server.specs.Journal.{Disks, EndsJournaled, HasJournal, IsJournaledRun, IsUnlent, LendsDisk, disks, opening_of}
use Rattle.bus_server.specs.Seated.{LeavesHome, Sits}
use Rattle.bus_server.proofs.RunLemmas.{disk_first, ends_by, faultless, first_disk}
use Rattle.bus_server.proofs.SeatedLemmas.{no_door_after}

pub found_disk : (found : List Batch) (s : State) → (after_all found s).disk ≡ s.disk
found_disk [] s = refl
found_disk (b ∷ bs) s = found_disk bs (after_written b s)

-- ---- statuses

-- a status that is none of these
pub record IsApart (status : Status) : Type 0 where
  pub usage : status ≢ statuses.Usage
  pub door : status ≢ statuses.DoorFault
  pub read : status ≢ statuses.ReadFault
  pub write : status ≢ statuses.WriteFault

pub fault_apart : (fault : JournalFault) (status : Status) → status ≡ status_of_fault fault → IsApart status
fault_apart faults.NotOurs status is = record { usage = λ e. cc; door = λ e. cc; read = λ e. cc; write = λ e. cc }
fault_apart (faults.Damaged place byte) status is = record { usage = λ e. cc; door = λ e. cc; read = λ e. cc; write = λ e. cc }
fault_apart faults.Failed status is = record { usage = λ e. cc; door = λ e. cc; read = λ e. cc; write = λ e. cc }
fault_apart faults.NoMemory status is = record { usage = λ e. cc; door = λ e. cc; read = λ e. cc; write = λ e. cc }

pub opening_apart : (fault : HostFault) (status : Status) → status ≡ status_of_opening fault → IsApart status
opening_apart host.Failed status is = record { usage = λ e. cc; door = λ e. cc; read = λ e. cc; write = λ e. cc }
opening_apart host.NoMemory status is = record { usage = λ e. cc; door = λ e. cc; read = λ e. cc; write = λ e. cc }

-- the counts of faults of streams that were not touched
pub counts_apart : (status : Status) (reads writes : ℕ) → IsApart status → FaultsMatch status reads reads writes writes
counts_apart status reads writes a = faultless status reads reads writes writes a.read a.write refl refl

-- the host's counts around a run
pub matches_apart : {H : Type 0} (door link : H → ℕ) (status : Status) (old new : H) → IsApart status → door new ≡ door old → link new ≡ link old
    → HostMatches door link status old new
matches_apart door link status old new a same_door same_link =
    record { same_door = same_door; door_fault = λ is. absurd (a.door is); link_faultless = λ _. same_link }

pub matches_around : {H : Type 0} (door link : H → ℕ) (status : Status) (old mid on new : H) → door mid ≡ door old → link mid ≡ link old
    → HostMatches door link status mid on → door new ≡ door on → link new ≡ link on → HostMatches door link status old new
matches_around door link status old mid on new door_mid link_mid m door_new link_new = record {
  same_door = door_new ∙ m.same_door ∙ door_mid;
  door_fault = λ is. subst (λ (n : ℕ). Rose n (link new)) link_mid (subst (λ (n : ℕ). Rose (link mid) n) (sym link_new) (m.door_fault is));
  link_faultless = λ other. link_new ∙ m.link_faultless other ∙ link_mid;
}

-- ---- the disk

-- a history that was opened on a disk leaves one
pub left_some : {D : Type 0} (calls : D → List DiskCall) (counts : D → ℕ) (turns : List Turn) (opened : OpenedDisk) (disk : Option D) → (state_of turns).disk ≡ Some opened
    → LeavesHome calls counts turns disk → IsSome disk
left_some calls counts turns opened None is left = absurd (cc)
left_some calls counts turns opened (Some d) is left = refl

disk_by : (start : Turn) (Ends : SessionEnd → Bool → Type 0) (now : Option ℕ) (old new : World) → RunsBy start Ends now old new → (state_of new.turns).disk ≡ first_disk (start ∷ [])
disk_by start Ends None old new runs = disk_first start Ends old new runs
disk_by start Ends (Some moment) old new (readings, each, runs, same) =
    disk_first start Ends (record old { readings = [] }) (record new { readings = readings }) runs

-- a journal that was not opened leaves one
pub some_back : {D : Type 0} (calls : D → List DiskCall) (counts : D → ℕ) (lent : D) (back : Option D) (fault : JournalFault)
    → HasOpenFault calls counts (Some lent) back fault → IsSome back
some_back {D} calls counts lent back fault (d, is, cause) = subst (λ (o : Option D). IsSome o) (sym is) refl

-- the host lent its disk
pub lends : {D : Type 0} (calls : D → List DiskCall) (path : List ℕ) (Has : D → D → Type 0) (given middle after given_new : List (List ℕ × D))
    (back between back_mid back_new : List D) (n n_mid n_on n_new : ℕ) (lent returned : D) → calls lent ≡ [] → middle ≡ given ++ (path, lent) ∷ [] → after ≡ middle
    → given_new ≡ after → between ≡ back → back_mid ≡ between → back_new ≡ back_mid ++ returned ∷ [] → n_mid ≡ n → n_on ≡ n_mid → n_new ≡ n_on → Has lent returned
    → LendsDisk calls path Has (disks given back n) (disks given_new back_new n_new)
lends {D} calls path Has given middle after given_new back between back_mid back_new n n_mid n_on n_new lent returned fresh got kept kept_on none none_on took
    same same_on same_new has = record {
      lent = lent;
      returned = returned;
      just_opened = fresh;
      given = kept_on ∙ kept ∙ got;
      back = took ∙ ap (λ (ds : List D). ds ++ returned ∷ []) (none_on ∙ none);
      faultless = same_new ∙ same_on ∙ same;
      has = has;
    }

-- the host gave no disk
unlent_by : (T : Type 0) (fault : HostFault) (n n_new : ℕ) (status : Status) → status ≡ status_of_opening fault
    → CountsFaults n n_new (host_outcome {T = T} (Err fault)) → ((status ≡ statuses.DiskFault) × Rose n n_new) ⊎ ((status ≡ statuses.NoMemory) × (n_new ≡ n))
unlent_by T host.Failed n n_new status is count = inl (is, count.rose)
unlent_by T host.NoMemory n n_new status is count = inr (is, count.same)

pub unlent : {D : Type 0} (Unbegun : Type 0) (given given_new : List (List ℕ × D)) (back back_new : List D) (n n_new : ℕ) (fault : HostFault) (status : Status)
    → status ≡ status_of_opening fault → given_new ≡ given → back_new ≡ back → CountsFaults n n_new (host_outcome {T = D} (Err fault)) → Unbegun
    → IsUnlent Unbegun (disks given back n) (disks given_new back_new n_new) status
unlent {D} Unbegun given given_new back back_new n n_new fault status is same_given same_back count none =
    record { unbegun = none; none_given = same_given; none_back = same_back; cause = unlent_by D fault n n_new status is count }

-- memory ran out before the words were read
pub unread_disk : {D : Type 0} (Unbegun : Type 0) (given : List (List ℕ × D)) (back : List D) (n : ℕ) (status : Status) → status ≡ statuses.NoMemory → Unbegun
    → IsUnlent Unbegun (disks given back n) (disks given back n) status
unread_disk Unbegun given back n status is none = record { unbegun = none; none_given = refl; none_back = refl; cause = inr (is, refl) }

module _ {D L : Type 0} (calls : D → List DiskCall) (counts : D → ℕ) (answered : L → List Exchange) (link_faults : L → ℕ) (Counts : Status → Type 0) where
  pub some_disk : (now : Option ℕ) (j : Journal D) (disk : Option D) (old new : Around L) (status : Status)
      → Sits calls counts answered link_faults Counts (opening_of calls counts j) now old new disk status → IsSome disk
  some_disk now j disk old new status (inl s) =
      left_some calls counts s.runs.turns (as_opened calls counts j.file.disk) disk (disk_by (opening_of calls counts j) (EndsJournaled Counts status) now _ _ s.runs.runs) s.left
  some_disk now j disk old new status (inr s) =
      let opened : OpenedDisk = as_opened calls counts j.file.disk in
      left_some calls counts (opening_of calls counts j ∷ []) opened disk (found_disk (batches_of j) (begun_with (Some opened) first_tables)) s.left

  -- a session had the journal's book, or nothing was begun
  pub has_journal : (now : Option ℕ) (lent returned : D) (disk : Option D) (old new : Around L) (status : Status) (book : Book D)
      (opened : IsOpenedFrom calls counts lent book) → disk ≡ Some returned
      → Sits calls counts answered link_faults Counts (opening_of calls counts opened.journal) now old new disk status
      → HasJournal calls counts answered link_faults Counts now old new status lent returned
  has_journal now lent returned disk old new status book opened is (inl s) = inr (inr (record {
    book = book;
    opened = opened;
    runs = s.runs;
    left = subst (LeavesHome calls counts s.runs.turns) is s.left;
  }))
  has_journal now lent returned disk old new status book opened is (inr s) = inr (inl (record {
    book = book;
    opened = opened;
    left = subst (LeavesHome calls counts (opening_of calls counts opened.journal ∷ [])) is s.left;
    why = s.why;
    unbegun = s.unbegun;
    counted = s.counted;
  }))

  -- no journal was opened
  pub not_opened : (now : Option ℕ) (lent returned : D) (back : Option D) (fault : JournalFault) (old new : Around L) (status : Status)
      → HasOpenFault calls counts (Some lent) back fault → back ≡ Some returned → status ≡ status_of_fault fault → IsUnbegun old new → Counts status
      → HasJournal calls counts answered link_faults Counts now old new status lent returned
  not_opened now lent returned back fault old new status cause is by none counted = inl (record {
    fault = fault;
    cause = subst (λ (o : Option D). HasOpenFault calls counts (Some lent) o fault) is cause;
    is = by;
    unbegun = (none, counted);
  })

  -- the same, with the links of the host as it was before and after
  pub has_links : (now : Option ℕ) (lent returned : D) (gave gave_new : List (List ℕ)) (written written_new readings readings_new : List ℕ)
      (given given_mid given_on given_new back back_mid back_on back_new : List L) (status : Status) → given_mid ≡ given → back_mid ≡ back → given_new ≡ given_on
      → back_new ≡ back_on
      → HasJournal calls counts answered link_faults Counts now (around gave written readings given_mid back_mid) (around gave_new written_new readings_new given_on back_on) status lent returned
      → HasJournal calls counts answered link_faults Counts now (around gave written readings given back) (around gave_new written_new readings_new given_new back_new) status lent returned
  has_links now lent returned gave gave_new written written_new readings readings_new given given_mid given_on given_new back back_mid back_on back_new status
      same_given same_back given_is back_is has =
      let Has : List L → List L → List L → List L → Type 0 = λ g b g_new b_new.
      HasJournal calls counts answered link_faults Counts now (around gave written readings g b) (around gave_new written_new readings_new g_new b_new) status lent returned in
      subst (λ (x : List L). Has x back given_new back_new) same_given (subst (λ (x : List L). Has given_mid x given_new back_new) same_back
      (subst (λ (x : List L). Has given_mid back_mid x back_new) (sym given_is) (subst (λ (x : List L). Has given_mid back_mid given_on x) (sym back_is) has)))

  -- ---- no such status

  no_usage_has : (now : Option ℕ) (lent returned : D) (old new : Around L) (status : Status) → HasJournal calls counts answered link_faults Counts now old new status lent returned
      → status ≢ statuses.Usage
  no_usage_has now lent returned old new status (inl opened) = (fault_apart opened.fault status opened.is).usage
  no_usage_has now lent returned old new status (inr (inl opened)) = elim opened.why [ inl is ↦ λ e. cc | inr is ↦ λ e. cc ]
  no_usage_has now lent returned old new status (inr (inr journaled)) =
      let (end, broken, (is, counted)) = ends_by _ (EndsJournaled Counts status) now _ _ journaled.runs.runs in (no_door_after broken end status is).1

  pub no_usage_journaled : (path : List ℕ) (now : Option ℕ) (old_disks new_disks : Disks D) (old new : Around L) (status : Status)
      → IsJournaledRun calls counts answered link_faults Counts path now old_disks new_disks old new status → status ≢ statuses.Usage
  no_usage_journaled path now old_disks new_disks old new status (inl lends) = no_usage_has now lends.lent lends.returned old new status lends.has
  no_usage_journaled path now old_disks new_disks old new status (inr unlent) = elim unlent.cause [ inl (is, rose) ↦ λ e. cc | inr (is, same) ↦ λ e. cc ]
