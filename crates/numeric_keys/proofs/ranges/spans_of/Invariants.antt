use Rattle.std.proofs.Common.{◌≡◌, length}
use Rattle.numeric_keys.specs.RangeTree.{EnclosesFrom}
use Rattle.numeric_keys.proofs.ranges.spans_of.Given as goal

-- the nodes from the counter on have their spans
abbrev pub invariant-loop-node : goal.invariant-loop-node
invariant-loop-node l = (length l.spans.items ≡ length l.ranges) ×
    EnclosesFrom l.ranges l.spans.items l.node
