-- The run of a program. Other files cite `runs_once`, `first_disk`, `disk_first`, `run_still`, `run_clocked`, `none_begun` and `ends_by` (its session), and
-- `faultless`, `end_faults`, `no_door_fault`, `no_usage_end` and `no_usage` (its faults); `seen_some`, `seen_none`.
use Rattle.std.proofs.Common.{◌≡◌, ◌≢◌, ℕ, ◌≤◌, inl, inr, Bool, List, [], ◌∷◌, ◌++◌, Option, Some, None, refl, sym, ap, ◌∙◌, subst}
use Rattle.std.specs.Prelude.{All, option_map}
use Rattle.router_disk.specs.Faults.{Rose}
use Rattle.router_disk.specs.Link.{Exchange}
use Rattle.router_core.specs.Tables.{first_tables}
use Rattle.program_lines.specs.declared.status.Status.{Status}
use Rattle.program_lines.specs.declared.status.Status.TheVariants as statuses
use Rattle.message_streams.specs.declared.farewell.SessionEnd.{SessionEnd}
use Rattle.message_streams.specs.declared.farewell.SessionEnd.TheVariants as ends
use Rattle.router_history.specs.History.{OpenedDisk, Ask, opens, asked, claims, records, puts_back, repeats, breaks, Turn, State, AreTurnsFrom, begun, state_after, state_of, turns_by}
use Rattle.router_history.specs.Book.{opening, IsBook, Rests}
use Rattle.router_history.specs.Acts.{World, world}
use Rattle.router_history.specs.Session.{IsSession}
use Rattle.router_history.proofs.TurnLemmas.{state_append}
use Rattle.router_history.proofs.BookLemmas.{added_legal, disk_of}
use Rattle.drill_run.specs.OnePass.{only_seat}
use Rattle.drill_run.proofs.OnePassLemmas.{all_own, first_none, of_one_pass}
use Rattle.bus_server.specs.Run.{status_of, AreRecorded, EndsWhole, RunsOnce, RunsBy, Around, around, IsUnbegun, IsRun, FaultsMatch}
use Rattle.bus_server.proofs.RecordedLemmas.{session_recorded}

-- a session over the book that this turn opened, whose pass made all turns after the first
pub runs_once : (start : Turn) (Ends : SessionEnd → Bool → Type 0) (old new : World) (end : SessionEnd) → old.turns ≡ start ∷ [] → IsBook old.turns
    → IsSession only_seat old new end → IsBook new.turns → Rests 0 new.turns → ((n : ℕ) → 1 ≤ n → turns_by n new.turns ≡ [])
    → Ends end (state_of new.turns).broken → RunsOnce start Ends old new
runs_once start Ends old new end first old_book session book rests unmade ends =
    let (acts, ended, does) = session in
    let legal : AreTurnsFrom (state_of old.turns) does.makes.added = added_legal old.turns new.turns does.makes.added old_book book does.makes.turns in
    let added_unmade : (n : ℕ) → 1 ≤ n → turns_by n does.makes.added ≡ [] = λ n most.
    first_none n start does.makes.added (ap (λ (ts : List Turn). turns_by n (ts ++ does.makes.added)) (sym first) ∙ ap (turns_by n) (sym does.makes.turns) ∙ unmade n most) in
    let state : state_of new.turns ≡ state_after does.makes.added (state_of old.turns) =
    ap state_of does.makes.turns ∙ state_append (begun first_tables) old.turns does.makes.added in
    record {
      end = end;
      session = session;
      recorded = subst (λ (s : State). AreRecorded s.broken acts) (sym state)
          (session_recorded (state_of old.turns) does.makes.added end acts
          (record { happens = does.makes.happens; legal = legal; own = all_own (state_of old.turns) does.makes.added legal added_unmade }) ended);
      first = first;
      ends = ends;
      history = of_one_pass new.turns book rests unmade;
    }

-- the disk that the first turn has, if it opens a book with one
abbrev disk_by : Ask → Option OpenedDisk
disk_by (opens start found disk) = disk
disk_by (asked request) = None
disk_by (claims c) = None
disk_by (records a) = None
disk_by (puts_back c why) = None
disk_by (repeats reading) = None
disk_by (breaks bs) = None

abbrev pub first_disk : List Turn → Option OpenedDisk
first_disk [] = None
first_disk (turn ∷ turns) = disk_by turn.ask

-- it is that of the state
pub disk_first : (start : Turn) (Ends : SessionEnd → Bool → Type 0) (old new : World) → RunsOnce start Ends old new
    → (state_of new.turns).disk ≡ first_disk (start ∷ [])
disk_first start Ends old new r =
    let (acts, ended, does) = r.session in
    let book : IsBook new.turns = r.history.book in
    disk_of new.turns book ∙ sym (ap first_disk book.opened) ∙ ap first_disk (does.makes.turns ∙ ap (λ (ts : List Turn). ts ++ does.makes.added) r.first)

-- the host gave no link, or out of memory
pub none_begun : {L : Type 0} (gave : List (List ℕ)) (written readings : List ℕ) (given given_new back back_new : List L) → given_new ≡ given → back_new ≡ back
    → IsUnbegun (around gave written readings given back) (around gave written readings given_new back_new)
none_begun gave written readings given given_new back back_new same_given same_back =
    record { untouched = record { unread = refl; unclocked = refl; none_given = same_given; none_back = same_back }; unwritten = refl }

-- a session by a clock whose every reading is the given one; the program's own clock is not read
pub run_still : (start : Turn) (Ends : SessionEnd → Bool → Type 0) (now : Option ℕ) (moment : ℕ) (first : List Turn) (gave gave_new : List (List ℕ))
    (written written_new readings still : List ℕ) (answered answered_new : List Exchange) (faults faults_new : ℕ) (turns : List Turn)
    → now ≡ Some moment → All (λ r. r ≡ moment) still
    → RunsOnce start Ends (world first gave written [] answered faults) (world turns gave_new written_new still answered_new faults_new)
    → RunsBy start Ends now (world first gave written readings answered faults) (world turns gave_new written_new readings answered_new faults_new)
run_still start Ends now moment first gave gave_new written written_new readings still answered answered_new faults faults_new turns is each runs =
    subst (λ (n : Option ℕ). RunsBy start Ends n (world first gave written readings answered faults)
    (world turns gave_new written_new readings answered_new faults_new)) (sym is) (still, each, runs, refl)

-- a session by the program's own clock
pub run_clocked : (start : Turn) (Ends : SessionEnd → Bool → Type 0) (now : Option ℕ) (old new : World) → now ≡ None → RunsOnce start Ends old new
    → RunsBy start Ends now old new
run_clocked start Ends now old new is runs = subst (λ (n : Option ℕ). RunsBy start Ends n old new) (sym is) runs

-- how a session ended
pub ends_by : (start : Turn) (Ends : SessionEnd → Bool → Type 0) (now : Option ℕ) (old new : World) → RunsBy start Ends now old new
    → (end : SessionEnd) × (broken : Bool) × Ends end broken
ends_by start Ends None old new runs = (runs.end, (state_of new.turns).broken, runs.ends)
ends_by start Ends (Some moment) old new (readings, each, runs, same) = (runs.end, (state_of new.turns).broken, runs.ends)

-- a session ends with no such status
pub no_door_fault : (end : SessionEnd) (status : Status) → status ≡ status_of end → status ≢ statuses.DoorFault
no_door_fault ends.Closed status is e = cc
no_door_fault ends.Cut status is e = cc
no_door_fault ends.Refused status is e = cc
no_door_fault ends.Long status is e = cc
no_door_fault ends.ReadFault status is e = cc
no_door_fault ends.WriteFault status is e = cc
no_door_fault ends.NoMemory status is e = cc

pub no_usage_end : (end : SessionEnd) (status : Status) → status ≡ status_of end → status ≢ statuses.Usage
no_usage_end ends.Closed status is e = cc
no_usage_end ends.Cut status is e = cc
no_usage_end ends.Refused status is e = cc
no_usage_end ends.Long status is e = cc
no_usage_end ends.ReadFault status is e = cc
no_usage_end ends.WriteFault status is e = cc
no_usage_end ends.NoMemory status is e = cc

-- a run of `once` does not end with `Usage`
pub no_usage : {L : Type 0} (answered : L → List Exchange) (faults : L → ℕ) (now : Option ℕ) (old new : Around L) (status : Status)
    → IsRun answered faults now old new status → status ≢ statuses.Usage
no_usage answered faults now old new status (inl linked) =
    let (end, broken, (whole, is)) = ends_by opening (EndsWhole status) now _ _ linked.runs in no_usage_end end status is
no_usage answered faults now old new status (inr (inl is, none)) = λ e. cc
no_usage answered faults now old new status (inr (inr is, none)) = λ e. cc

-- a status without a fault
pub faultless : (status : Status) (reads reads_new writes writes_new : ℕ) → status ≢ statuses.ReadFault → status ≢ statuses.WriteFault
    → reads_new ≡ reads → writes_new ≡ writes → FaultsMatch status reads reads_new writes writes_new
faultless status reads reads_new writes writes_new no_read no_write same_reads same_writes = record {
  read_fault = λ e. absurd (no_read e);
  input_faultless = λ _. same_reads;
  write_fault = λ e. absurd (no_write e);
  output_faultless = λ _. same_writes;
}

-- the faults of a status are those of the session's end
pub end_faults : (end : SessionEnd) (status : Status) (reads reads_new writes writes_new : ℕ) → status ≡ status_of end
    → (end ≡ ends.ReadFault → Rose reads reads_new) → (end ≢ ends.ReadFault → reads_new ≡ reads)
    → (end ≡ ends.WriteFault → Rose writes writes_new) → (end ≢ ends.WriteFault → writes_new ≡ writes)
    → FaultsMatch status reads reads_new writes writes_new
end_faults ends.Closed status reads reads_new writes writes_new is read unread write unwritten =
    faultless status reads reads_new writes writes_new (λ e. cc) (λ e. cc) (unread (λ e. cc)) (unwritten (λ e. cc))
end_faults ends.Cut status reads reads_new writes writes_new is read unread write unwritten =
    faultless status reads reads_new writes writes_new (λ e. cc) (λ e. cc) (unread (λ e. cc)) (unwritten (λ e. cc))
end_faults ends.Refused status reads reads_new writes writes_new is read unread write unwritten =
    faultless status reads reads_new writes writes_new (λ e. cc) (λ e. cc) (unread (λ e. cc)) (unwritten (λ e. cc))
end_faults ends.Long status reads reads_new writes writes_new is read unread write unwritten =
    faultless status reads reads_new writes writes_new (λ e. cc) (λ e. cc) (unread (λ e. cc)) (unwritten (λ e. cc))
end_faults ends.NoMemory status reads reads_new writes writes_new is read unread write unwritten =
    faultless status reads reads_new writes writes_new (λ e. cc) (λ e. cc) (unread (λ e. cc)) (unwritten (λ e. cc))
end_faults ends.ReadFault status reads reads_new writes writes_new is read unread write unwritten = record {
  read_fault = λ _. read refl;
  input_faultless = λ other. absurd (other is);
  write_fault = λ e. cc;
  output_faultless = λ _. unwritten (λ e. cc);
}
end_faults ends.WriteFault status reads reads_new writes writes_new is read unread write unwritten = record {
  read_fault = λ e. cc;
  input_faultless = λ _. unread (λ e. cc);
  write_fault = λ _. write refl;
  output_faultless = λ other. absurd (other is);
}

-- what is seen of an option
pub seen_some : {X Y : Type 0} (o : Option X) (x : X) (f : X → Y) → o ≡ Some x → option_map f o ≡ Some (f x)
seen_some o x f is = ap (option_map f) is

pub seen_none : {X Y : Type 0} (o : Option X) (f : X → Y) → o ≡ None → option_map f o ≡ None
seen_none o f is = ap (option_map f) is
