-- What is done, act by act, in the order of time.
use Rattle.std.specs.Prelude.{ℕ, List, [], ◌∷◌, flat_map}

-- One act: a reading of the clock; a look at the book, which was in this state; a turn of the book; or any other, such as a send.
-- Shown by: one_reading_for_all_steps.edit.
pub data Act (Placed State Other : Type 0) : Type 0 where
  ticks : ℕ → Act Placed State Other
  looks : State → Act Placed State Other
  makes : Placed → Act Placed State Other
  does : Other → Act Placed State Other

module _ {Placed State Other : Type 0} where
  -- the reading of the clock
  abbrev pub readings_of : Act Placed State Other → List ℕ
  readings_of (ticks reading) = reading ∷ []
  readings_of (looks state) = []
  readings_of (makes turn) = []
  readings_of (does other) = []

  -- the act itself, if it is one on the book
  abbrev pub book_acts_of : Act Placed State Other → List (Act Placed State Other)
  book_acts_of (ticks reading) = []
  book_acts_of (looks state) = looks state ∷ []
  book_acts_of (makes turn) = makes turn ∷ []
  book_acts_of (does other) = []

  -- The readings of the clock, in order.
  -- Shown by: one_reading_for_all_steps.edit.
  abbrev pub readings_in : List (Act Placed State Other) → List ℕ
  readings_in = flat_map readings_of

  -- The turns and the looks, in order.
  -- Shown by: stops_before_the_budget.edit.
  abbrev pub book_acts_in : List (Act Placed State Other) → List (Act Placed State Other)
  book_acts_in = flat_map book_acts_of
