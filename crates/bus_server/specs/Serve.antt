-- The program while it serves connections to a port.
use Rattle.std.specs.Prelude.{◌≡◌, ◌≢◌, ℕ, ◌≤◌, ◌⊎◌, Bool, true, false, List, [], ◌∷◌, ◌++◌, length, map, All, AllPairs, Contains, Option, Some}
use Rattle.router_disk.specs.Faults.{Rose}
use Rattle.program_lines.specs.declared.status.Status.{Status}
use Rattle.program_lines.specs.declared.status.Status.TheVariants as statuses
use Rattle.program_lines.specs.Printed.{listening_text}
use Rattle.shared_door.specs.Shown.{Shown}
use Rattle.router_core.specs.Tables.{Tables}
use Rattle.door_workers.specs.declared.door.DoorEnd.{DoorEnd}
use Rattle.door_workers.specs.declared.door.DoorEnd.TheVariants as ends
use Rattle.door_workers.specs.Serving.{HasServed, Session, Worked, IsWorker}
use Rattle.router_history.specs.declared.history.Turn.{Turn}
use Rattle.router_history.specs.History.{state_of}
use Rattle.router_history.specs.History as history
use Rattle.router_history.specs.Book.{turn_of, opening, IsBook}
use Rattle.tables_summary.specs.Summary.{IsSummed, WritesPart}

-- What is known around a program that serves: the bytes written; the doors, each after its port, and the links that the host gave, and those
-- that it took back; the clocks that were lent, and those that came back; and the host's counts of faults of doors and of links.
-- Shown by: program_tests serve.rt: a_port_that_is_not_open_serves_nothing.
pub record AroundDoor (D L C : Type 0) : Type 0 where
  pub written : List ℕ
  pub doors : List (ℕ × D)
  pub doors_back : List D
  pub links : List L
  pub links_back : List L
  pub clocks : List C
  pub clocks_back : List C
  pub door_faults : ℕ
  pub link_faults : ℕ

-- The `AroundDoor` with these parts.
-- Shown by: as AroundDoor.
abbrev pub around_door : {D L C : Type 0} → List ℕ → List (ℕ × D) → List D → List L → List L → List C → List C → ℕ → ℕ → AroundDoor D L C
around_door written doors doors_back links links_back clocks clocks_back door_faults link_faults = record {
  written = written;
  doors = doors;
  doors_back = doors_back;
  links = links;
  links_back = links_back;
  clocks = clocks;
  clocks_back = clocks_back;
  door_faults = door_faults;
  link_faults = link_faults;
}

-- The links that workers are lent, and their clocks.
-- Shown by: program_tests serve.rt: two_workers_serve_the_first_run.
abbrev pub links_of : {L C : Type 0} → List (L × C) → List L
links_of owns = map (λ o. o.0) owns

abbrev pub clocks_of : {L C : Type 0} → List (L × C) → List C
clocks_of owns = map (λ o. o.1) owns

-- The status, and what was written after the workers had ended, if the book is not broken: `IsSummed` if the door is done; `DoorFault` and
-- nothing if it failed. A door is stopped only by a broken book.
-- Shown by: program_tests serve.rt: a_door_that_fails_ends_the_run.
abbrev pub EndsUnbroken : DoorEnd → Tables → List ℕ → List ℕ → Status → Type 0
EndsUnbroken ends.Done t old new status = IsSummed t old new status
EndsUnbroken ends.DoorFault t old new status = (status ≡ statuses.DoorFault) × (new ≡ old)
EndsUnbroken ends.Stopped t old new status = ⊥
EndsUnbroken ends.NoMemory t old new status = ⊥

-- `EndsUnbroken`; if the book is broken, `DiskFault` and nothing, whatever ended the workers.
-- Shown by: as EndsUnbroken.
abbrev pub EndsServing : Bool → DoorEnd → Tables → List ℕ → List ℕ → Status → Type 0
EndsServing true end t old new status = (status ≡ statuses.DiskFault) × (new ≡ old)
EndsServing false end t old new status = EndsUnbroken end t old new status

-- What is known at a door: the door, what its workers were lent, each a link and a clock, and the bytes written.
-- Shown by: program_tests serve.rt: two_workers_serve_the_first_run.
pub record AtDoor (D Own : Type 0) : Type 0 where
  pub door : D
  pub owns : List Own
  pub written : List ℕ

-- The pass that made a turn has one of these numbers.
-- Shown by: program_tests clauses.rt: a_door_that_closes_at_once_leaves_zeros.
abbrev pub IsMadeBy : List ℕ → history.Turn → Type 0
IsMadeBy numbers turn = (n : ℕ) × (turn.pass ≡ Some n) × Contains numbers n

-- `show` is what a door shows, `fits` what an ended connection owes to a history, and `did` what a worker did. `start` is the turn that opened
-- the book, and `Keeps` holds of the whole history.
module _ {D Own I O : Type 0} (show : D → Shown I O) (fits : ℕ → I × O → I × O → Bool → List Turn → List Turn → Type 0)
    (did : ℕ → Own → Own → List (Session I O Turn) → List Turn → Type 0) (start : history.Turn) (Keeps : List history.Turn → Type 0) where
  -- The workers served the door, one for each link and its clock. Their turns are one legal history: each turn but the first is made by the pass of a worker, each worker did what its pass's turns, its link and its clock show (`did`), and no claim is left
  -- open. Each connection that ended fits the history, and each session of a worker is that of such a connection (`HasServed` and `IsWorker` of
  -- door_workers). The program ends by `EndsServing` with the tables after the history.
  -- Shown by: program_tests serve.rt: sixteen_workers_serve_more_connections_than_they_are; program_tests clauses.rt:
  -- a_door_that_closes_at_once_leaves_zeros.
  pub record IsOpened (connections : Option ℕ) (old new : AtDoor D Own) (status : Status) : Type 0 where
    pub turns : List Turn
    pub book : IsBook (map turn_of turns)
    pub later : List history.Turn
    pub opened : map turn_of turns ≡ start ∷ later
    pub kept : Keeps (map turn_of turns)
    pub end : DoorEnd
    pub served : HasServed connections (show old.door) (show new.door) fits turns end
    pub crew : List (Worked I O Turn Own)
    pub lent_are : map (λ w. w.lent) crew ≡ old.owns
    pub owns_are : map (λ w. w.now) crew ≡ new.owns
    pub distinct : AllPairs (λ n m. n ≢ m) (map (λ w. w.number) crew)
    pub each : All (λ w. IsWorker did served.acts w × (w.seen ≡ turns)) crew
    pub makers : All (IsMadeBy (map (λ w. w.number) crew)) later
    pub none_open : (state_of (map turn_of turns)).open_claims ≡ []
    pub ends : EndsServing (state_of (map turn_of turns)).broken end (state_of (map turn_of turns)).tables old.written new.written status

module _ {D L C I O : Type 0} (show : D → Shown I O) (fits : ℕ → I × O → I × O → Bool → List Turn → List Turn → Type 0)
    (did : ℕ → L × C → L × C → List (Session I O Turn) → List Turn → Type 0) (start : history.Turn) (Keeps : List history.Turn → Type 0) where
  -- The host gave one door, at the port, and one link for each worker, and took back one door and as many links, with no fault. A clock was lent
  -- with each link, and came back with it. `listening` and the port were written, and then the workers served the door (`IsOpened`).
  -- Shown by: program_tests serve.rt: two_workers_serve_the_first_run; serve_counts_one_link_too_few.edit.
  pub record Serves (port workers : ℕ) (connections : Option ℕ) (old new : AroundDoor D L C) (status : Status) : Type 0 where
    -- the door as it was given, and as it was taken back
    pub lent : D
    pub returned : D
    pub doors : new.doors ≡ old.doors ++ (port, lent) ∷ []
    pub doors_back : new.doors_back ≡ old.doors_back ++ returned ∷ []
    -- the links and clocks as they were given, and as they were taken back
    pub owns : List (L × C)
    pub owns_back : List (L × C)
    pub links : new.links ≡ old.links ++ links_of owns
    pub links_back : new.links_back ≡ old.links_back ++ links_of owns_back
    pub clocks : new.clocks ≡ old.clocks ++ clocks_of owns
    pub clocks_back : new.clocks_back ≡ old.clocks_back ++ clocks_of owns_back
    pub each_worker : length owns ≡ workers
    pub all_back : length owns_back ≡ workers
    pub faultless : (new.door_faults ≡ old.door_faults) × (new.link_faults ≡ old.link_faults)
    pub opened : IsOpened show fits did start Keeps connections (record { door = lent; owns = owns; written = old.written ++ listening_text port })
        (record { door = returned; owns = owns_back; written = new.written }) status

-- the host failed to give a door, or a link, and not both
abbrev pub OneRose : {D L C : Type 0} → AroundDoor D L C → AroundDoor D L C → Type 0
OneRose old new =
    (Rose old.door_faults new.door_faults × (new.link_faults ≡ old.link_faults)) ⊎ (Rose old.link_faults new.link_faults × (new.door_faults ≡ old.door_faults))

-- Why nothing was served, and what was written: `DoorFault` after one fault of the host, in giving a link or the door (`OneRose`), and
-- nothing; `WriteFault` and a first part of the line `listening`; `NoMemory`, and nothing or the line.
-- Shown by: program_tests serve.rt: without_its_first_line_nothing_is_served.
abbrev pub EndsUnserved : {D L C : Type 0} → ℕ → AroundDoor D L C → AroundDoor D L C → Status → Type 0
EndsUnserved port old new status =
    ((status ≡ statuses.DoorFault) × (new.written ≡ old.written) × OneRose old new)
    ⊎ (((status ≡ statuses.WriteFault) × WritesPart old.written new.written (listening_text port))
    ⊎ ((status ≡ statuses.NoMemory) × ((new.written ≡ old.written) ⊎ (new.written ≡ old.written ++ listening_text port))))

-- Nothing was served, by `EndsUnserved`. The host took back the door, if it gave one, and the links, each as it gave it; and each clock that was
-- lent came back as it was lent.
-- Shown by: program_tests serve.rt: a_port_that_is_not_open_serves_nothing, without_its_first_line_nothing_is_served.
pub record IsUnserved {D L C : Type 0} (port workers : ℕ) (old new : AroundDoor D L C) (status : Status) : Type 0 where
  pub cause : EndsUnserved port old new status
  pub lent : List D
  pub one : length lent ≤ 1
  pub opened_first : status ≡ statuses.WriteFault → length lent ≡ 1
  pub doors : new.doors ≡ old.doors ++ map (λ (d : D). (port, d)) lent
  pub doors_back : new.doors_back ≡ old.doors_back ++ lent
  pub owns : List (L × C)
  pub few : length owns ≤ workers
  pub links : new.links ≡ old.links ++ links_of owns
  pub links_back : new.links_back ≡ old.links_back ++ links_of owns
  pub clocks : new.clocks ≡ old.clocks ++ clocks_of owns
  pub clocks_back : new.clocks_back ≡ old.clocks_back ++ clocks_of owns
  pub faultless : status ≢ statuses.DoorFault → (new.door_faults ≡ old.door_faults) × (new.link_faults ≡ old.link_faults)

-- The run of a program that serves over a book: `Serves`, or `IsUnserved` and the book has the one turn.
-- Shown by: program_tests serve.rt: two_workers_serve_the_first_run.
abbrev pub IsServeOn : {D L C I O : Type 0} → (D → Shown I O) → (ℕ → I × O → I × O → Bool → List Turn → List Turn → Type 0)
    → (ℕ → L × C → L × C → List (Session I O Turn) → List Turn → Type 0) → history.Turn → (List history.Turn → Type 0) → ℕ → ℕ → Option ℕ
    → AroundDoor D L C → AroundDoor D L C → Status → Type 0
IsServeOn show fits did start Keeps port workers connections old new status =
    Serves show fits did start Keeps port workers connections old new status ⊎ (IsUnserved port workers old new status × Keeps (start ∷ []))

-- The book is not broken after a history.
-- Shown by: proofs alone.
abbrev pub IsUnbroken : List history.Turn → Type 0
IsUnbroken turns = (state_of turns).broken ≡ false

-- The run of a program that serves without a journal: from the first tables, and the book is not broken.
-- Shown by: program_tests serve.rt: two_workers_serve_the_first_run.
abbrev pub IsServe : {D L C I O : Type 0} → (D → Shown I O) → (ℕ → I × O → I × O → Bool → List Turn → List Turn → Type 0)
    → (ℕ → L × C → L × C → List (Session I O Turn) → List Turn → Type 0) → ℕ → ℕ → Option ℕ → AroundDoor D L C → AroundDoor D L C → Status → Type 0
IsServe show fits did port workers connections old new status = IsServeOn show fits did opening IsUnbroken port workers connections old new status
