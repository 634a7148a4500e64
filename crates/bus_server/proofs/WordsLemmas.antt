-- Words that are not carried out. Other files cite `unread_by`, `refused_by`, `unread_command` with `unread_once`, `unread_serve` and `unread_drill` (a
-- command for which there is no memory), `unread_check`, `no_door_unread`, `serve_apart`, `journal_apart`, `no_usage_drill`, `no_usage_check`, `said`, `reported_last`,
-- `reported_alone`; `unread_begun`; `same_once` and the others of commands; `no_path`.
use Rattle.std.proofs.Common.{◌≡◌, ◌≢◌, ℕ, ◌<◌, ◌≤◌, ◌⊎◌, inl, inr, Bool, true, false, List, [], map, ◌++◌, Option, Some, None, Result, Ok, Err, refl, sym, subst, arith, append-nil}
use Rattle.program_lines.specs.declared.status.Status.{Status}
use Rattle.program_lines.specs.declared.status.Status.TheVariants as statuses
use Rattle.command_line.specs.Command.{CommandView, IsCommand, once, serve, check, drill}
use Rattle.command_line.specs.Fault.{AreRefused, IsFault}
use Rattle.command_line.specs.declared.fault.WordsFault.{WordsFault}
use Rattle.command_line.specs.declared.fault.WordsFault.TheVariants as faults
use Rattle.command_line.proofs.FaultLemmas.{command_asks}
use Rattle.router_disk.specs.declared.disk_call.DiskCall.{DiskCall}
use Rattle.router_disk.specs.Faults.{CountsFaults, Rose}
use Rattle.router_disk.specs.Link.{Exchange}
use Rattle.router_disk.specs.Sink.{AddsBytes}
use Rattle.shared_door.specs.Shown.{Shown}
use Rattle.door_workers.specs.declared.door.DoorEnd.{DoorEnd}
use Rattle.door_workers.specs.declared.door.DoorEnd.TheVariants as ends
use Rattle.router_core.specs.Tables.{Tables}
use Rattle.router_history.specs.declared.history.Turn.{Turn}
use Rattle.router_history.specs.History.{state_of}
use Rattle.drill_run.specs.Drill.{IsDrill}
use Rattle.journal_check.specs.Check.{AroundDisk, HasStatus, IsCheck, around_disk}
use Rattle.tables_summary.specs.Summary.{IsSummed}
use Rattle.program_lines.specs.Files.{workers_for}
use Rattle.bus_server.specs.Run.{FaultsMatch, HostMatches, IsReported, IsReportedLast, IsRun, IsUnbegun, around}
use Rattle.door_workers.specs.Serving.{Session}
use Rattle.bus_server.specs.Serve.{AroundDoor, EndsServing, EndsUnserved, IsServeOn, IsUnserved, around_door}
use Rattle.bus_server.specs.Journal.{Disks}
use Rattle.bus_server.specs.ServeJournal.{IsJournaledServe}
use Rattle.bus_server.proofs.JournalLemmas.{fault_apart}
use Rattle.router_history.specs.History as history
use Rattle.router_history.specs.Book.{turn_of}
use Rattle.bus_server.specs.Words.{EndsBy, EndsUnread}
use Rattle.bus_server.proofs.ServeLemmas.{no_room}

-- what comes of words, by why they are not carried out
pub unread_by : (words : List (List ℕ)) (fault : WordsFault) (old new : List ℕ) (status : Status) → IsFault words fault → EndsBy fault old new status
    → EndsUnread words old new status
unread_by words (faults.Help help) old new status is (ends, (text, written)) = inl (is, ends, (text, written))
unread_by words (faults.Refused text) old new status is (ends, same) = inr (inl (ends, is, same))
unread_by words faults.NoMemory old new status is (ends, same) = inr (inr (ends, same))

-- only refused words end so
pub refused_by : (words : List (List ℕ)) (fault : WordsFault) (old new : List ℕ) (status : Status) → IsFault words fault → EndsBy fault old new status
    → status ≡ statuses.Usage → AreRefused words
refused_by words (faults.Help text) old new status is (inl done, written) usage = cc
refused_by words (faults.Help text) old new status is (inr fault, written) usage = cc
refused_by words (faults.Refused text) old new status is ends usage = is
refused_by words faults.NoMemory old new status is (ends, same) usage = cc

-- a command that is not carried out: memory ran out
pub unread_command : (words : List (List ℕ)) (c : CommandView) (fault : WordsFault) (old new : List ℕ) (status : Status) → IsCommand words c → IsFault words fault
    → EndsBy fault old new status → (status ≡ statuses.NoMemory) × (new ≡ old)
unread_command words c (faults.Help text) old new status command asks ends = absurd (command_asks words c command asks)
unread_command words c (faults.Refused text) old new status command refused ends = absurd (refused.0 c command)
unread_command words c faults.NoMemory old new status command is ends = ends

pub no_door_unread : (fault : WordsFault) (old new : List ℕ) (status : Status) → EndsBy fault old new status → status ≢ statuses.DoorFault
no_door_unread (faults.Help text) old new status (inl done, written) = λ e. cc
no_door_unread (faults.Help text) old new status (inr is, written) = λ e. cc
no_door_unread (faults.Refused text) old new status (is, same) = λ e. cc
no_door_unread faults.NoMemory old new status (is, same) = λ e. cc

-- nothing was begun, given that nothing was written
pub unread_begun : {L : Type 0} (gave : List (List ℕ)) (written written_new readings : List ℕ) (given back : List L) → written_new ≡ written
    → IsUnbegun (around gave written readings given back) (around gave written_new readings given back)
unread_begun gave written written_new readings given back same =
    record { untouched = record { unread = refl; unclocked = refl; none_given = refl; none_back = refl }; unwritten = same }

pub unread_once : {L : Type 0} (answered : L → List Exchange) (faults : L → ℕ) (now : Option ℕ) (gave : List (List ℕ)) (written written_new readings : List ℕ)
    (given back : List L) (status : Status) → (status ≡ statuses.NoMemory) × (written_new ≡ written)
    → IsRun answered faults now (around gave written readings given back) (around gave written_new readings given back) status
unread_once answered faults now gave written written_new readings given back status (is, same) =
    inr (inl is, unread_begun gave written written_new readings given back same)

pub unread_serve : {D L C : Type 0} (port workers : ℕ) (written written_new : List ℕ) (doors : List (ℕ × D)) (doors_back : List D) (links links_back : List L)
    (clocks clocks_back : List C) (door_faults link_faults : ℕ) (status : Status) → (status ≡ statuses.NoMemory) × (written_new ≡ written)
    → IsUnserved port workers (around_door written doors doors_back links links_back clocks clocks_back door_faults link_faults)
    (around_door written_new doors doors_back links links_back clocks clocks_back door_faults link_faults) status
unread_serve {D} {L} {C} port workers written written_new doors doors_back links links_back clocks clocks_back door_faults link_faults status (is, same) =
    subst (λ (w : List ℕ). IsUnserved port workers (around_door written doors doors_back links links_back clocks clocks_back door_faults link_faults)
    (around_door w doors doors_back links links_back clocks clocks_back door_faults link_faults) status) (sym same)
    (no_room port workers (around_door written doors doors_back links links_back clocks clocks_back door_faults link_faults) status is)

pub unread_check : {D : Type 0} (calls : D → List DiskCall) (faults : D → ℕ) (path written written_new : List ℕ) (disks : List (List ℕ × D)) (back : List D)
    (disk_faults : ℕ) (status : Status) → (status ≡ statuses.NoMemory) × (written_new ≡ written)
    → IsCheck calls faults path (around_disk written disks back disk_faults) (around_disk written_new disks back disk_faults) status
unread_check calls faults path written written_new disks back disk_faults status (is, same) =
    inr (record { unwritten = same; none_given = refl; none_back = refl; cause = inr (is, refl) })

no_usage_summed : (t : Tables) (old new : List ℕ) (status : Status) → IsSummed t old new status → status ≢ statuses.Usage
no_usage_summed t old new status (inl (is, written)) = λ e. cc
no_usage_summed t old new status (inr (inl (is, written))) = λ e. cc
no_usage_summed t old new status (inr (inr (is, written))) = λ e. cc

pub no_usage_drill : (seed events : ℕ) (old new : List ℕ) (status : Status) → IsDrill seed events old new status → status ≢ statuses.Usage
no_usage_drill seed events old new status (inl (turns, drilled, one, summed)) = no_usage_summed (state_of turns).tables old new status summed
no_usage_drill seed events old new status (inr (is, same)) = λ e. cc

-- a check has no such status
unchecked_end : (A B : Type 0) (status : Status) → ((status ≡ statuses.DiskFault) × A) ⊎ ((status ≡ statuses.NoMemory) × B)
    → (status ≢ statuses.Usage) × (status ≢ statuses.ReadFault)
unchecked_end A B status (inl (is, a)) = ((λ e. cc), (λ e. cc))
unchecked_end A B status (inr (is, b)) = ((λ e. cc), (λ e. cc))

pub no_usage_check : {D : Type 0} (calls : D → List DiskCall) (faults : D → ℕ) (path : List ℕ) (old new : AroundDisk D) (status : Status)
    → IsCheck calls faults path old new status → (status ≢ statuses.Usage) × (status ≢ statuses.ReadFault)
no_usage_check calls faults path old new status (inl checks) =
    let Found : Status → Type 0 = λ s. HasStatus (calls checks.returned) old.written new.written s in
    ((λ e. subst Found e checks.read.found), (λ e. subst Found e checks.read.found))
no_usage_check calls faults path old new status (inr unchecked) =
    unchecked_end (Rose old.disk_faults new.disk_faults) (new.disk_faults ≡ old.disk_faults) status unchecked.cause

-- a text was written, or a first part of it
pub said : {T E : Type 0} (old new : List ℕ) (result : Result T E) (bytes : List ℕ) (faults faults_new : ℕ) → AddsBytes old new result bytes
    → CountsFaults faults faults_new result → (why : List ℕ) × (new ≡ old ++ why) × (faults ≤ faults_new)
said old new (Ok done) bytes faults faults_new is count = (bytes, is, count.later)
said old new (Err fault) bytes faults faults_new (first, rest, whole, is) count = (first, is, count.later)

-- the status's line after what may have been written before
pub reported_last : (status : Status) (old mid new : List ℕ) (faults faults_mid faults_new : ℕ) → ((why : List ℕ) × (mid ≡ old ++ why) × (faults ≤ faults_mid))
    → IsReported status mid new faults_mid faults_new → IsReportedLast status old new faults faults_new
reported_last status old mid new faults faults_mid faults_new (why, is, later) reported = record {
  why = why;
  faults_before = faults_mid;
  later = later;
  reported = subst (λ (b : List ℕ). IsReported status b new faults_mid faults_new) is reported;
}

pub reported_alone : (status : Status) (old new : List ℕ) (faults faults_new : ℕ) → IsReported status old new faults faults_new
    → IsReportedLast status old new faults faults_new
reported_alone status old new faults faults_new reported = reported_last status old old new faults faults faults_new
    ([], sym (append-nil old), omega arith) reported

-- a host that was asked nothing
pub unread_host : {H : Type 0} (door link : H → ℕ) (status : Status) (host : H) → status ≢ statuses.DoorFault → HostMatches door link status host host
unread_host door link status host other = record { same_door = refl; door_fault = λ is. absurd (other is); link_faultless = λ _. refl }

-- as many workers as files are allowed for
pub fitting_within : (files asked : ℕ) → 1 ≤ asked → asked ≤ 1024 → (0 < workers_for files asked) × (workers_for files asked ≤ 1024)
fitting_within files asked low high = (grind arith, grind arith)

-- a drill has no fault of the input
no_door_summed : (t : Tables) (old new : List ℕ) (status : Status) → IsSummed t old new status → (status ≢ statuses.DoorFault) × (status ≢ statuses.ReadFault)
no_door_summed t old new status (inl (is, written)) = ((λ e. cc), (λ e. cc))
no_door_summed t old new status (inr (inl (is, written))) = ((λ e. cc), (λ e. cc))
no_door_summed t old new status (inr (inr (is, written))) = ((λ e. cc), (λ e. cc))

pub no_door_drill : (seed events : ℕ) (old new : List ℕ) (status : Status) → IsDrill seed events old new status
    → (status ≢ statuses.DoorFault) × (status ≢ statuses.ReadFault)
no_door_drill seed events old new status (inl (turns, drilled, one, summed)) = no_door_summed (state_of turns).tables old new status summed
no_door_drill seed events old new status (inr (is, same)) = ((λ e. cc), (λ e. cc))

-- a program that serves has no such status
ending_apart : (broken : Bool) (end : DoorEnd) (t : Tables) (old new : List ℕ) (status : Status) → EndsServing broken end t old new status
    → (status ≢ statuses.Usage) × (status ≢ statuses.ReadFault)
ending_apart true end t old new status (is, same) = ((λ e. cc), (λ e. cc))
ending_apart false ends.Done t old new status is = (no_usage_summed t old new status is, (no_door_summed t old new status is).1)
ending_apart false ends.DoorFault t old new status (is, same) = ((λ e. cc), (λ e. cc))
ending_apart false ends.Stopped t old new status is = absurd is
ending_apart false ends.NoMemory t old new status is = absurd is

unserved_apart : {D L C : Type 0} (port : ℕ) (old new : AroundDoor D L C) (status : Status) → EndsUnserved port old new status
    → (status ≢ statuses.Usage) × (status ≢ statuses.ReadFault)
unserved_apart port old new status (inl (is, same, one)) = ((λ e. cc), (λ e. cc))
unserved_apart port old new status (inr (inl (is, part))) = ((λ e. cc), (λ e. cc))
unserved_apart port old new status (inr (inr (is, written))) = ((λ e. cc), (λ e. cc))

pub serve_apart : {D L C I O : Type 0} (show : D → Shown I O) (fits : ℕ → I × O → I × O → Bool → List Turn → List Turn → Type 0)
    (did : ℕ → L × C → L × C → List (Session I O Turn) → List Turn → Type 0) (start : history.Turn) (Keeps : List history.Turn → Type 0) (port workers : ℕ)
    (connections : Option ℕ) (old new : AroundDoor D L C) (status : Status) → IsServeOn show fits did start Keeps port workers connections old new status
    → (status ≢ statuses.Usage) × (status ≢ statuses.ReadFault)
serve_apart show fits did start Keeps port workers connections old new status (inl served) =
    let o = served.opened in ending_apart (state_of (map turn_of o.turns)).broken o.end (state_of (map turn_of o.turns)).tables _ new.written status o.ends
serve_apart show fits did start Keeps port workers connections old new status (inr (unserved, kept)) = unserved_apart port old new status unserved.cause

pub journal_apart : {J D L C I O : Type 0} (calls : J → List DiskCall) (faults : J → ℕ) (show : D → Shown I O)
    (fits : ℕ → I × O → I × O → Bool → List Turn → List Turn → Type 0) (did : ℕ → L × C → L × C → List (Session I O Turn) → List Turn → Type 0) (path : List ℕ)
    (port workers : ℕ) (connections : Option ℕ) (old_disks new_disks : Disks J) (old new : AroundDoor D L C) (status : Status)
    → IsJournaledServe calls faults show fits did path port workers connections old_disks new_disks old new status → (status ≢ statuses.Usage) × (status ≢ statuses.ReadFault)
journal_apart calls faults show fits did path port workers connections old_disks new_disks old new status (inl lent) = elim lent.has [
  | inl none ↦ let apart = fault_apart none.fault status none.is in (apart.usage, apart.read)
  | inr served ↦ serve_apart show fits did _ _ port workers connections old new status served.serves
]
journal_apart calls faults show fits did path port workers connections old_disks new_disks old new status (inr none) =
    unchecked_end (Rose old_disks.faults new_disks.faults) (new_disks.faults ≡ old_disks.faults) status none.cause

-- the faults of a program that does not read
pub unread_counts : (status : Status) (reads writes writes_new : ℕ) → status ≢ statuses.ReadFault → (status ≡ statuses.WriteFault → Rose writes writes_new)
    → (status ≢ statuses.WriteFault → writes_new ≡ writes) → FaultsMatch status reads reads writes writes_new
unread_counts status reads writes writes_new other rose same =
    record { read_fault = λ is. absurd (other is); input_faultless = λ _. refl; write_fault = rose; output_faultless = same }

-- ---- commands apart

pub same_once : (j k : Option (List ℕ)) (a b : Option ℕ) → once j a ≡ once k b → (j ≡ k) × (a ≡ b)
same_once j k a b is = (cc, cc)

pub same_serve : (j j2 : Option (List ℕ)) (p w p2 w2 : ℕ) (k k2 : Option ℕ) → serve j p w k ≡ serve j2 p2 w2 k2 → (j ≡ j2) × (p ≡ p2) × (w ≡ w2) × (k ≡ k2)
same_serve j j2 p w p2 w2 k k2 is = (cc, cc, cc, cc)

pub same_drill : (s e s2 e2 : ℕ) → drill s e ≡ drill s2 e2 → (s ≡ s2) × (e ≡ e2)
same_drill s e s2 e2 is = (cc, cc)

pub same_check : (a b : List ℕ) → check a ≡ check b → a ≡ b
same_check a b is = cc

pub once_serve : (j : Option (List ℕ)) (a : Option ℕ) (i : Option (List ℕ)) (p w : ℕ) (k : Option ℕ) → once j a ≡ serve i p w k → ⊥
once_serve j a i p w k is = cc

pub once_drill : (j : Option (List ℕ)) (a : Option ℕ) (s e : ℕ) → once j a ≡ drill s e → ⊥
once_drill j a s e is = cc

pub once_check : (k : Option (List ℕ)) (a : Option ℕ) (j : List ℕ) → once k a ≡ check j → ⊥
once_check k a j is = cc

-- `once` with no path
pub no_path : (o : Option (List ℕ)) → ((path : List ℕ) → o ≢ Some path) → o ≡ None
no_path None none = refl
no_path (Some path) none = absurd (none path refl)

pub serve_check : (i : Option (List ℕ)) (p w : ℕ) (k : Option ℕ) (j : List ℕ) → serve i p w k ≡ check j → ⊥
serve_check i p w k j is = cc

pub check_drill : (j : List ℕ) (s e : ℕ) → check j ≡ drill s e → ⊥
check_drill j s e is = cc

pub serve_drill : (i : Option (List ℕ)) (p w : ℕ) (k : Option ℕ) (s e : ℕ) → serve i p w k ≡ drill s e → ⊥
serve_drill i p w k s e is = cc
