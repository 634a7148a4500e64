use Rattle.std.proofs.Common.{◌≡◌, ◌++◌, take}
use Rattle.rule_automaton.proofs.entries.add_paths.Given as goal

abbrev pub invariant-loop-number : goal.invariant-loop-number
invariant-loop-number l = l.copies.items ≡ l.fn.copies.items ++ take l.number l.paths
