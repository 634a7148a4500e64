use Rattle.std.proofs.Common.{◌<◌, All}
use Rattle.leaf_bench.proofs.ranges.shaped.Given as goal

-- each mark so far is 0
abbrev pub invariant-loop-i : goal.invariant-loop-i
invariant-loop-i l = All (λ range. range.2 < 1) l.ranges.items
