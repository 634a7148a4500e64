-- What a session or a worker does, act by act, in the order of time.
use Rattle.std.specs.Prelude.{ℕ, List, [], ◌∷◌, flat_map}
use Rattle.delivery_duties.specs.declared.outcome.Outcome.{Outcome}
use Rattle.courier_run.specs.Claim.{Claim}

-- One act: a read that gave this piece, of which the empty one is the end; a reading of the clock; a look at the book, which was in this
-- state; a turn of the book; an attempt of this claim, which had this outcome; a write of these bytes.
-- Shown by: outside_tests test_courier_run.rt: a_fault_leaves_no_claim_open.
pub data Act (Placed State : Type 0) : Type 0 where
  reads : List ℕ → Act Placed State
  ticks : ℕ → Act Placed State
  looks : State → Act Placed State
  makes : Placed → Act Placed State
  tries : Claim → Outcome → Act Placed State
  writes : List ℕ → Act Placed State

-- An attempt as the link sees it: its claim and its outcome.
-- Shown by: sent_again_after_a_failure.edit.
pub record Try : Type 0 where
  pub claim : Claim
  pub outcome : Outcome

module _ {Placed State : Type 0} where
  -- the piece that a read gave
  abbrev pub pieces_of : Act Placed State → List (List ℕ)
  pieces_of (reads piece) = piece ∷ []
  pieces_of (ticks reading) = []
  pieces_of (looks state) = []
  pieces_of (makes turn) = []
  pieces_of (tries claim outcome) = []
  pieces_of (writes bytes) = []

  -- the reading of the clock
  abbrev pub readings_of : Act Placed State → List ℕ
  readings_of (reads piece) = []
  readings_of (ticks reading) = reading ∷ []
  readings_of (looks state) = []
  readings_of (makes turn) = []
  readings_of (tries claim outcome) = []
  readings_of (writes bytes) = []

  -- the act itself, if it is one on the book
  abbrev pub book_acts_of : Act Placed State → List (Act Placed State)
  book_acts_of (reads piece) = []
  book_acts_of (ticks reading) = []
  book_acts_of (looks state) = looks state ∷ []
  book_acts_of (makes turn) = makes turn ∷ []
  book_acts_of (tries claim outcome) = []
  book_acts_of (writes bytes) = []

  -- the attempt
  abbrev pub tries_of : Act Placed State → List Try
  tries_of (reads piece) = []
  tries_of (ticks reading) = []
  tries_of (looks state) = []
  tries_of (makes turn) = []
  tries_of (tries claim outcome) = record { claim = claim; outcome = outcome } ∷ []
  tries_of (writes bytes) = []

  -- the bytes of a write
  abbrev pub bytes_of : Act Placed State → List ℕ
  bytes_of (reads piece) = []
  bytes_of (ticks reading) = []
  bytes_of (looks state) = []
  bytes_of (makes turn) = []
  bytes_of (tries claim outcome) = []
  bytes_of (writes bytes) = bytes

  -- The pieces that reads gave, in order.
  -- Shown by: session_tests tests.rt: the_first_run_has_its_replies.
  abbrev pub pieces_in : List (Act Placed State) → List (List ℕ)
  pieces_in = flat_map pieces_of

  -- The readings of the clock, in order.
  -- Shown by: outside_tests test_courier_run.rt: each_claim_has_a_reading_of_its_own.
  abbrev pub readings_in : List (Act Placed State) → List ℕ
  readings_in = flat_map readings_of

  -- The turns and the looks, in order.
  -- Shown by: outside_tests test_courier_run.rt: a_fault_leaves_no_claim_open.
  abbrev pub book_acts_in : List (Act Placed State) → List (Act Placed State)
  book_acts_in = flat_map book_acts_of

  -- The attempts, in order.
  -- Shown by: sent_again_after_a_failure.edit.
  abbrev pub tries_in : List (Act Placed State) → List Try
  tries_in = flat_map tries_of

  -- The bytes written, in order.
  -- Shown by: session_tests tests.rt: the_first_run_has_its_replies.
  abbrev pub bytes_in : List (Act Placed State) → List ℕ
  bytes_in = flat_map bytes_of
