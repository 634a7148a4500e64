-- What the contracts of the hall say of a pass, by its seat. A pass is seen as its seat in the table of the hall, and `view` is what it
-- knows.
use Rattle.std.specs.Prelude.{◌≡◌, ℕ, List, [], ◌∷◌, ◌++◌, Option, None}
use Rattle.atomic_table.specs.declared.shared.Seat.{Seat}
use Rattle.turn_book.specs.declared.view.View.{View}
use Rattle.turn_book.specs.Rule.{AreOf}

module _ {V T : Type 0} where
  -- What a pass knows: its number, whether it has a turn, its ticket, how many passes it made, and the history as far as it has seen it.
  -- Shown by: outside_tests test_turn_book.rt: one_pass_gives_its_turns.
  abbrev pub view : Seat (Option V) (View T) → View T
  view seat = seat.me.0

  -- The number of a pass and the turns that it has seen.
  -- Shown by: outside_tests test_turn_book.rt: four_threads_share_one_history.
  abbrev pub known_by : Seat (Option V) (View T) → ℕ × List T
  known_by seat = (seat.me.0.number, seat.me.0.seen)

  -- The pass has no turn and waits for none.
  -- Shown by: outside_tests test_turn_book.rt: one_pass_gives_its_turns.
  abbrev pub IsFree : Seat (Option V) (View T) → Type 0
  IsFree seat = (seat.me.0.stage ≡ 0) × (seat.me.1 ≡ [])

  -- The pass has the turn, and its holder has the value.
  -- Shown by: outside_tests test_turn_book.rt: one_pass_gives_its_turns.
  abbrev pub HasTurn : Seat (Option V) (View T) → Type 0
  HasTurn seat = (seat.me.0.stage ≡ 2) × (seat.me.1 ≡ (0, None) ∷ [])

  -- A pass of the same hall with the same number, which has made as many passes.
  -- Shown by: outside_tests test_turn_book.rt: four_threads_share_one_history.
  abbrev pub IsSamePass : Seat (Option V) (View T) → Seat (Option V) (View T) → Type 0
  IsSamePass old new = (new.table_id ≡ old.table_id) × (new.me.0.number ≡ old.me.0.number) × (new.me.0.passes ≡ old.me.0.passes) × (new.me.0.made ≡ old.me.0.made)

  -- Whether the pass has a turn, its ticket and what it holds are as before.
  -- Shown by: outside_tests test_turn_book.rt: four_threads_share_one_history.
  abbrev pub HasSameTurn : Seat (Option V) (View T) → Seat (Option V) (View T) → Type 0
  HasSameTurn old new = (new.me.0.stage ≡ old.me.0.stage) × (new.me.0.ticket ≡ old.me.0.ticket) × (new.me.1 ≡ old.me.1)

-- The list is what was seen, and then turns that each name this pass or no pass.
-- Shown by: outside_tests test_turn_book.rt: one_pass_gives_its_turns.
abbrev pub Extends : {T : Type 0} → (T → Option ℕ) → ℕ → List T → List T → Type 0
Extends {T} made_by n seen turns = (added : List T) × (turns ≡ seen ++ added) × AreOf made_by n added
