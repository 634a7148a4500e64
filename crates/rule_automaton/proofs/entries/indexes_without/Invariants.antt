use Rattle.std.proofs.Common.{◌≡◌, List, length}
use Rattle.rule_automaton.specs.Table.{Entered, ExactBelow, IsTableOf, others}
use Rattle.rule_automaton.proofs.entries.indexes_without.Given as goal

abbrev pub invariant-loop-place : goal.invariant-loop-place
invariant-loop-place l =
    (length l.indexes.items ≡ l.place)
    × ((all : List Entered) → IsTableOf all l.table → ExactBelow (others l.number all) l.paths l.indexes.items l.place)
