-- A door that workers served.
use Rattle.std.specs.Prelude.{◌≡◌, ◌≢◌, ◌⊎◌, ◌+◌, ◌<◌, ◌≤◌, ◌++◌, ℕ, Bool, List, [], ◌∷◌, map, length, All, AllPairs, Contains, Option, Some, None}
use mathlib.Core.List.{IsPrefix}
use Rattle.atomic_table.specs.Seated.{TableId}
use Rattle.atomic_table.specs.declared.shared.Seat.{Seat}
use Rattle.turn_book.specs.declared.view.View.{View}
use Rattle.turn_book.specs.Rule.{turns_by}
use Rattle.turn_book.specs.Passes.{IsFree}
use Rattle.shared_door.specs.declared.connection.Standing.{Standing}
use Rattle.growing_list.specs.declared.list.Front.{Front}
use Rattle.shared_door.specs.declared.acts.Act.{Act}
use Rattle.shared_door.specs.declared.acts.Visit.{Visit}
use Rattle.shared_door.specs.Acts.{visits_of, IsOver}
use Rattle.shared_door.specs.declared.connection.Knocked.{Knocked}
use Rattle.shared_door.specs.declared.connection.Knocked.TheVariants as knocked
use Rattle.shared_door.specs.Knocks.{tickets_of, came_of, seen_of}
use Rattle.shared_door.specs.declared.connection.Over.{Over}
use Rattle.shared_door.specs.declared.connection.Over.TheVariants as over
use Rattle.shared_door.specs.Shown.{Shown}
use Rattle.shared_door.specs.Visits.{Gave, Visited}
use Rattle.door_workers.specs.declared.door.DoorEnd.{DoorEnd}
use Rattle.door_workers.specs.declared.door.DoorEnd.TheVariants.{Done, DoorFault, Stopped, NoMemory}

-- A pass of this hall that has no turn.
-- Shown by: outside_tests test_door_workers.rt: two_workers_serve_three_connections.
abbrev pub IsIdlePass : {V T : Type 0} → TableId → Seat (Option V) (View T) → Type 0
IsIdlePass hall seat = (seat.table_id ≡ hall) × IsFree seat

-- The same, of a pass that has nothing open in what it has seen.
-- Shown by: outside_tests test_door_workers.rt: two_workers_serve_three_connections.
abbrev pub IsRestingPass : {V T : Type 0} → (ℕ → List T → Type 0) → TableId → Seat (Option V) (View T) → Type 0
IsRestingPass rests hall seat = IsIdlePass hall seat × rests seat.me.0.number seat.me.0.seen

-- a worker that has not begun: its pass, and a front of the porch's acts
abbrev pub IsHired : {V T A : Type 0} → (ℕ → List T → Type 0) → TableId → ℕ → Seat (Option V) (View T) → Front A → Type 0
IsHired rests hall name seat front = IsRestingPass rests hall seat × (front.name ≡ name)

-- why the porch gives no more connections
abbrev pub over_of : DoorEnd → Option Over
over_of Done = Some over.Closed
over_of DoorFault = Some over.Failed
over_of Stopped = Some over.Stopped
over_of NoMemory = None

-- A door that showed `start`, of which at most `most` connections were asked for, gave some and shows `now`; `end` says why it gave no
-- more. `acts` is what the porch did. Those that ended each fit a history with these turns, and each has its own number.
-- Shown by: outside_tests test_door_workers.rt: two_workers_serve_three_connections, one_worker_stops_at_the_limit,
-- a_door_that_fails_is_reported; the_limit_is_ignored.edit.
pub record HasServed {I O T : Type 0} (most : Option ℕ) (start now : Shown I O)
    (fits : ℕ → I × O → I × O → Bool → List T → List T → Type 0) (turns : List T) (end : DoorEnd) : Type 0 where
  pub standing : Standing
  pub over_is : standing.over ≡ over_of end
  pub acts : List (Act I O T)
  pub gave : Gave most start now standing acts
  pub visited : Visited start now fits turns acts

-- for private clauses: what a worker whose pass has seen these turns knows of a knock's result
abbrev pub IsKnocked : {D T I O : Type 0} → TableId → ℕ → List T → Knocked D T I O → Type 0
IsKnocked tickets name seen (knocked.Conn c) = (tickets_of c ≡ tickets) × (came_of c ≡ (c.input, c.output)) × IsPrefix (seen_of c) seen
IsKnocked tickets name seen knocked.Quiet = Unit {0}
IsKnocked tickets name seen knocked.NoMemory = Unit {0}
IsKnocked tickets name seen (knocked.Closed f) = (f.name ≡ name) × IsOver f.items
IsKnocked tickets name seen (knocked.Failed f) = (f.name ≡ name) × IsOver f.items
IsKnocked tickets name seen (knocked.Stopped f) = (f.name ≡ name) × IsOver f.items

-- A session that a worker served: the number of its connection, the number of the worker's pass, the streams as they came and as they were at the end, whether out of memory
-- ended it, and the turns that the worker's pass had seen before.
-- Shown by: outside_tests test_door_workers.rt: two_workers_serve_three_connections.
pub record Session (I O T : Type 0) : Type 0 where
  pub number : ℕ
  pub pass : ℕ
  pub came : I × O
  pub went : I × O
  pub cut : Bool
  pub before : List T

module _ {I O T : Type 0} where
  -- The session of a connection that ended, as the porch shows it.
  -- Shown by: outside_tests test_door_workers.rt: two_workers_serve_three_connections.
  abbrev pub session_of : Visit I O T → Session I O T
  session_of v = record { number = v.number; pass = v.pass; came = v.arrival.value.came.value; went = v.went.value; cut = v.cut; before = v.before.items }

  -- By these acts a connection ended that had this session.
  -- Shown by: outside_tests test_door_workers.rt: two_workers_serve_three_connections.
  abbrev pub IsAmong : List (Act I O T) → Session I O T → Type 0
  IsAmong acts s = Contains (map session_of (visits_of acts)) s

-- A worker at the end: the number of its pass, what it was lent, what that is now, its sessions in order, and the turns that its pass has
-- seen.
-- Shown by: outside_tests test_door_workers.rt: two_workers_serve_three_connections.
pub record Worked (I O T Own : Type 0) : Type 0 where
  pub number : ℕ
  pub lent : Own
  pub now : Own
  pub sessions : List (Session I O T)
  pub seen : List T

-- the number of a worker's pass and what it was lent; the same number and the turns that the pass has seen
abbrev pub hired_as : {I O T Own : Type 0} → Worked I O T Own → ℕ × Own
hired_as w = (w.number, w.lent)

abbrev pub known_of : {I O T Own : Type 0} → Worked I O T Own → ℕ × List T
known_of w = (w.number, w.seen)

-- the number of a pass, and what its worker was lent
abbrev pub hired_by : {V T Own : Type 0} → Seat (Option V) (View T) → Own → ℕ × Own
hired_by seat lent = (seat.me.0.number, lent)

module _ {I O T Own : Type 0} (did : ℕ → Own → Own → List (Session I O T) → List T → Type 0) (acts : List (Act I O T)) where
  -- for private clauses: what a worker did until now; each of its sessions is one of a connection that ended
  pub record HasWorked {V : Type 0} (seat : Seat (Option V) (View T)) (lent now : Own) : Type 0 where
    pub sessions : List (Session I O T)
    pub among : All (IsAmong acts) sessions
    pub did_so : did seat.me.0.number lent now sessions seat.me.0.seen

  -- the same of a worker at the end
  pub record IsWorker (w : Worked I O T Own) : Type 0 where
    pub among : All (IsAmong acts) w.sessions
    pub did_so : did w.number w.lent w.now w.sessions w.seen

  -- for private clauses: the workers that ended so far, in the order of their ends
  pub record HasCrew (hired : List (ℕ × Own)) (owns : List Own) (passes : List (ℕ × List T)) : Type 0 where
    pub crew : List (Worked I O T Own)
    pub each : All IsWorker crew
    pub hired_are : map hired_as crew ≡ hired
    pub owns_are : map (λ w. w.now) crew ≡ owns
    pub passes_are : map known_of crew ≡ passes

  -- for private clauses: the same, and then the porch's pass with this number, which made no turn
  pub record IsGathered (made_by : T → Option ℕ) (number : ℕ) (hired : List (ℕ × Own)) (owns : List Own) (passes : List (ℕ × List T)) : Type 0 where
    pub workers : List (ℕ × List T)
    pub crew : HasCrew hired owns workers
    pub seen : List T
    pub passes_are : passes ≡ workers ++ (number, seen) ∷ []
    pub unturned : turns_by made_by number seen ≡ []

  -- What workers did: each one, in the order of the loan, did this from what it was lent to what that is now, and each of its sessions is one
  -- of a connection that ended. `passes` are theirs, in the same order, and then the porch's, which made no turn. These are all that were made
  -- from the number `first` on, and no two workers have the same.
  -- Shown by: outside_tests test_door_workers.rt: two_workers_serve_three_connections.
  pub record AreDone (made_by : T → Option ℕ) (first : ℕ) (lent owns : List Own) (passes : List (ℕ × List T)) : Type 0 where
    pub crew : List (Worked I O T Own)
    pub each : All IsWorker crew
    pub lent_are : map (λ w. w.lent) crew ≡ lent
    pub owns_are : map (λ w. w.now) crew ≡ owns
    pub porch : ℕ × List T
    pub passes_are : passes ≡ map known_of crew ++ porch ∷ []
    pub unturned : turns_by made_by porch.0 porch.1 ≡ []
    pub numbers : (n : ℕ) → first ≤ n → n < first + length passes → (n ≡ porch.0) ⊎ Contains (map (λ w. w.number) crew) n
    pub distinct : AllPairs (λ n m. n ≢ m) (map (λ w. w.number) crew)
