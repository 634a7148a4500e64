-- For private clauses alone: parts of a program that serves.
use Rattle.std.specs.Prelude.{◌≡◌, ◌≢◌, ℕ, ◌≤◌, ◌⊎◌, Bool, List, [], ◌∷◌, ◌++◌, length, map, Option, Result, Ok, Err}
use Rattle.router_disk.specs.Faults.{Rose}
use Rattle.bus_host.specs.declared.host.HostFault.{HostFault}
use Rattle.bus_host.specs.declared.host.HostFault.TheVariants as host
use Rattle.program_lines.specs.declared.status.Status.{Status}
use Rattle.program_lines.specs.declared.status.Status.TheVariants as statuses
use Rattle.program_lines.specs.Printed.{listening_text}
use Rattle.shared_door.specs.Shown.{Shown}
use Rattle.router_history.specs.declared.history.Turn.{Turn}
use Rattle.router_history.specs.History as history
use Rattle.door_workers.specs.Serving.{Session}
use Rattle.tables_summary.specs.Summary.{WritesPart}
use Rattle.bus_server.specs.Serve.{AroundDoor, AtDoor, links_of, clocks_of, EndsUnserved, IsOpened}

-- the status of a host that gave no link or no door
abbrev pub status_of_host : HostFault → Status
status_of_host host.Failed = statuses.DoorFault
status_of_host host.NoMemory = statuses.NoMemory

-- what a result of the host does to its count: only a failure raises it
abbrev pub CountsHost : {T : Type 0} → Result T HostFault → ℕ → ℕ → Type 0
CountsHost (Ok given) before now = now ≡ before
CountsHost (Err host.Failed) before now = Rose before now
CountsHost (Err host.NoMemory) before now = now ≡ before

-- the door and its links are as they were, and nothing was written: there was no memory for the workers
pub record IsUnopened {D Own : Type 0} (old new : AtDoor D Own) (status : Status) : Type 0 where
  pub same_door : new.door ≡ old.door
  pub same_owns : new.owns ≡ old.owns
  pub unwritten : new.written ≡ old.written
  pub no_memory : status ≡ statuses.NoMemory

-- the same with the line of the port before, or a first part of it
pub record IsUnannounced {D Own : Type 0} (port : ℕ) (old new : AtDoor D Own) (status : Status) : Type 0 where
  pub same_door : new.door ≡ old.door
  pub same_owns : new.owns ≡ old.owns
  pub cause : ((status ≡ statuses.WriteFault) × WritesPart old.written new.written (listening_text port))
      ⊎ ((status ≡ statuses.NoMemory) × (new.written ≡ old.written ++ listening_text port))

-- what is known at a door once the port was printed
abbrev pub printed : {D Own : Type 0} → ℕ → AtDoor D Own → AtDoor D Own
printed port old = record old { written = old.written ++ listening_text port }

module _ {D L C I O : Type 0} (show : D → Shown I O) (fits : ℕ → I × O → I × O → Bool → List Turn → List Turn → Type 0)
    (did : ℕ → L × C → L × C → List (Session I O Turn) → List Turn → Type 0) (start : history.Turn) (Keeps : List history.Turn → Type 0) where
  -- the port was printed, and the door served, with a link for each worker; or it was not served
  abbrev pub Announces : ℕ → Option ℕ → AtDoor D (L × C) → AtDoor D (L × C) → Status → Type 0
  Announces port connections old new status =
      ((length new.owns ≡ length old.owns) × IsOpened show fits did start Keeps connections (printed port old) new status)
      ⊎ (IsUnannounced port old new status × Keeps (start ∷ []))

  -- `Serves`, by links and clocks that were given before
  pub record ServesBy (port : ℕ) (connections : Option ℕ) (owns : List (L × C)) (old new : AroundDoor D L C) (status : Status) : Type 0 where
    pub lent : D
    pub returned : D
    pub doors : new.doors ≡ old.doors ++ (port, lent) ∷ []
    pub doors_back : new.doors_back ≡ old.doors_back ++ returned ∷ []
    pub owns_back : List (L × C)
    pub same_given : (new.links ≡ old.links) × (new.clocks ≡ old.clocks)
    pub links_back : new.links_back ≡ old.links_back ++ links_of owns_back
    pub clocks_back : new.clocks_back ≡ old.clocks_back ++ clocks_of owns_back
    pub faultless : (new.door_faults ≡ old.door_faults) × (new.link_faults ≡ old.link_faults)
    pub all_back : length owns_back ≡ length owns
    pub opened : IsOpened show fits did start Keeps connections (record { door = lent; owns = owns; written = old.written ++ listening_text port })
        (record { door = returned; owns = owns_back; written = new.written }) status

-- `IsUnserved`, with links and clocks that were given before
pub record IsUnservedBy {D L C : Type 0} (port : ℕ) (owns : List (L × C)) (old new : AroundDoor D L C) (status : Status) : Type 0 where
  pub cause : EndsUnserved port old new status
  pub lent : List D
  pub one : length lent ≤ 1
  pub opened_first : status ≡ statuses.WriteFault → length lent ≡ 1
  pub doors : new.doors ≡ old.doors ++ map (λ (d : D). (port, d)) lent
  pub doors_back : new.doors_back ≡ old.doors_back ++ lent
  pub same_given : (new.links ≡ old.links) × (new.clocks ≡ old.clocks)
  pub links_back : new.links_back ≡ old.links_back ++ links_of owns
  pub clocks_back : new.clocks_back ≡ old.clocks_back ++ clocks_of owns
  pub faultless : status ≢ statuses.DoorFault → (new.door_faults ≡ old.door_faults) × (new.link_faults ≡ old.link_faults)
