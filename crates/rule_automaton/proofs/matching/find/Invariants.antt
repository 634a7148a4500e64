use Rattle.std.proofs.Common.{map, take}
use Rattle.event_flatten.specs.LeafView.{leaf_of}
use Rattle.rule_automaton.specs.Matching.{AreFound}
use Rattle.rule_automaton.proofs.matching.find.Given as goal

abbrev pub invariant-loop-leaf : goal.invariant-loop-leaf
invariant-loop-leaf l = AreFound l.table (map leaf_of (take l.leaf-index l.leaves)) l.fn.marks l.marks
