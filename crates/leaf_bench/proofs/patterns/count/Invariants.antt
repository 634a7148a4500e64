use Rattle.std.proofs.Common.{◌≤◌}
use Rattle.leaf_bench.proofs.patterns.count.Given as goal

-- the pattern holds at most once a round
abbrev pub invariant-loop-round : goal.invariant-loop-round
invariant-loop-round l = l.held ≤ l.round
