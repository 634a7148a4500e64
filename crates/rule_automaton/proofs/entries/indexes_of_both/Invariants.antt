use Rattle.std.proofs.Common.{◌≡◌, List, length, ◌++◌}
use Rattle.rule_automaton.specs.Table.{Entered, ExactBelow, IsTableOf}
use Rattle.rule_automaton.proofs.entries.indexes_of_both.Given as goal

abbrev pub invariant-loop-number : goal.invariant-loop-number
invariant-loop-number l =
    (length l.indexes.items ≡ l.number)
    × ((all more : List Entered) → IsTableOf all l.table → IsTableOf more l.other → ExactBelow (all ++ more) l.paths l.indexes.items l.number)
