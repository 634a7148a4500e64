-- For private clauses alone: what contracts see of the automaton of a bus.
use Rattle.std.specs.Prelude.{ℕ, List}
use Rattle.board_publish.specs.declared.entered.Entered.{Entered}

-- the bus, the patterns with their numbers, the enabled rules in the byte order of their names, and a number that is greater than theirs
pub record Matcher : Type 0 where
  pub bus : List ℕ
  pub patterns : List (ℕ × List ℕ)
  pub entered : List Entered
  pub places : ℕ
