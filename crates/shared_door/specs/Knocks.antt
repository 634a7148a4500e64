-- What the calls of a porch return, and where the porch is then.
use Rattle.std.specs.Prelude.{◌≡◌, ◌≢◌, ◌⊎◌, ℕ, ◌+◌, Bool, List, [], ◌∷◌, ◌++◌, Some, None}
use Rattle.atomic_table.specs.Seated.{TableId}
use Rattle.growing_list.specs.declared.list.Front.{Front}
use Rattle.shared_door.specs.Acts.{over_in}
use Rattle.shared_door.specs.Visits.{IsOneFewer}
use Rattle.shared_door.specs.Porches.{PorchState}
use Rattle.shared_door.specs.declared.acts.Act.{Act}
use Rattle.shared_door.specs.declared.acts.Act.TheVariants as act
use Rattle.shared_door.specs.declared.acts.Visit.{Visit}
use Rattle.shared_door.specs.declared.acts.Arrival.{Arrival}
use Rattle.shared_door.specs.declared.connection.Standing.{Standing}
use Rattle.shared_door.specs.declared.connection.Connection.{Connection}
use Rattle.shared_door.specs.declared.connection.Knocked.{Knocked}
use Rattle.shared_door.specs.declared.connection.Knocked.TheVariants as knocked
use Rattle.shared_door.specs.declared.connection.Over.{Over}
use Rattle.shared_door.specs.declared.connection.Over.TheVariants as over

module _ {D T I O : Type 0} where
  -- Which porch gave the connection, by the name of its tickets.
  -- Shown by: outside_tests test_shared_door.rt: two_threads_serve_four_connections.
  abbrev pub tickets_of : Connection D T I O → TableId
  tickets_of c = c.ticket.seat.table_id

  -- The place of a connection, from 1, among those given.
  -- Shown by: outside_tests test_shared_door.rt: two_threads_serve_four_connections.
  abbrev pub number_of : Connection D T I O → ℕ
  number_of c = c.ticket.number

  -- The porch's act by which the connection came.
  -- Shown by: the_porch_is_not_met.edit.
  abbrev pub arrival_of : Connection D T I O → Arrival I O T
  arrival_of c = c.ticket.came.value

  -- The streams of a connection as they came.
  -- Shown by: outside_tests test_shared_door.rt: two_threads_serve_four_connections.
  abbrev pub came_of : Connection D T I O → I × O
  came_of c = (arrival_of c).came.value

  -- What the porch's pass had seen when the connection came.
  -- Shown by: the_porch_is_not_met.edit.
  abbrev pub seen_of : Connection D T I O → List T
  seen_of c = (arrival_of c).seen.items

-- The porch asks the door: it is not over, and may give one more connection.
-- Shown by: outside_tests test_shared_door.rt: a_porch_gives_no_more_than_it_may.
abbrev pub IsGoing : Standing → Type 0
IsGoing s = (s.over ≡ None) × (s.left ≢ Some 0)

module _ {I O T : Type 0} where
  -- The porch is over for this reason, and the front has all its acts.
  -- Shown by: outside_tests test_shared_door.rt: a_porch_returns_what_its_door_returns.
  pub record IsOverBy (name : ℕ) (new : PorchState I O T) (f : Front (Act I O T)) (o : Over) : Type 0 where
    pub name_is : f.name ≡ name
    pub acts_are : f.items ≡ new.acts
    pub over_is : over_in new.acts ≡ Some o

  -- A porch that did nothing but see turns.
  -- Shown by: outside_tests test_shared_door.rt: a_porch_returns_what_its_door_returns.
  pub record IsIdle (old new : PorchState I O T) : Type 0 where
    pub standing : new.standing ≡ old.standing
    pub acts : new.acts ≡ old.acts

-- What a knock returns, and where the porch is then.
-- Shown by: outside_tests test_shared_door.rt: a_porch_returns_what_its_door_returns.
abbrev pub Knocks : {D T I O : Type 0} → TableId → ℕ → PorchState I O T → PorchState I O T → Knocked D T I O → Type 0
Knocks tickets name old new (knocked.Conn c) =
    IsGoing old.standing × (new.standing.over ≡ None) × (new.standing.gave ≡ old.standing.gave + 1) × IsOneFewer old.standing.left new.standing.left
    × (number_of c ≡ new.standing.gave) × (came_of c ≡ (c.input, c.output)) × (tickets_of c ≡ tickets) × (seen_of c ≡ new.seen)
    × (new.acts ≡ old.acts ++ act.Gave (arrival_of c) ∷ [])
Knocks tickets name old new knocked.Quiet = IsGoing old.standing × IsIdle old new
Knocks tickets name old new knocked.NoMemory = IsGoing old.standing × IsIdle old new
Knocks tickets name old new (knocked.Closed f) =
    ((old.standing.over ≡ Some over.Closed) ⊎ (old.standing.over ≡ None)) × (new.standing ≡ record old.standing { over = Some over.Closed })
    × IsOverBy name new f over.Closed
Knocks tickets name old new (knocked.Failed f) =
    ((old.standing.over ≡ Some over.Failed) ⊎ IsGoing old.standing) × (new.standing ≡ record old.standing { over = Some over.Failed })
    × IsOverBy name new f over.Failed
Knocks tickets name old new (knocked.Stopped f) = (old.standing.over ≡ Some over.Stopped) × (new.standing ≡ old.standing) × IsOverBy name new f over.Stopped

module _ {D T I O : Type 0} where
  -- The act by which this connection ended, after a session of this pass. The pass had seen `before` when the session began, and now the
  -- porch's has seen `seen`.
  -- Shown by: a_cut_is_not_shown.edit.
  pub record IsEndOf (c : Connection D T I O) (pass : ℕ) (before : List T) (cut : Bool) (seen : List T) (v : Visit I O T) : Type 0 where
    pub number : v.number ≡ number_of c
    pub pass_is : v.pass ≡ pass
    pub arrival : v.arrival.value ≡ arrival_of c
    pub went : v.went.value ≡ (c.input, c.output)
    pub cut_is : v.cut ≡ cut
    pub before_is : v.before.items ≡ before
    pub seen_is : v.seen.items ≡ seen

  -- The connection came back to the porch.
  -- Shown by: a_cut_is_not_shown.edit.
  abbrev pub CameBack : PorchState I O T → PorchState I O T → Connection D T I O → ℕ → List T → Bool → Type 0
  CameBack old new c pass before cut = (v : Visit I O T) × IsEndOf c pass before cut new.seen v × (new.acts ≡ old.acts ++ act.Ended v ∷ [])
