use Rattle.std.proofs.Common.{◌≡◌, ◌<◌, ℕ, length, get_or}
use Rattle.std.specs.Arc.{arc_value}
use Rattle.std.specs.declared.alloc.Global.{Global}
use Rattle.std.specs.declared.sync.Arc.{Arc}
use Rattle.value_index.specs.declared.index.PathIndex.{PathIndex}
use Rattle.rule_automaton.proofs.entries.table_of_anchor.Given as goal

abbrev pub invariant-loop-place : goal.invariant-loop-place
invariant-loop-place l =
    (length l.indexes.items ≡ l._place)
    × ((k : ℕ) (d : Arc PathIndex Global) → k < l._place → arc_value (get_or l.indexes.items k d) ≡ arc_value l.index)
