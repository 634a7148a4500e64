use Rattle.std.proofs.Common.{◌≡◌, ◌<◌, All, length}
use Rattle.leaf_bench.proofs.ranges.look_up.Given as goal

-- the number of marks is unchanged, and each range has one of them
abbrev pub invariant-loop : goal.invariant-loop
invariant-loop l = length l.marks ≡ length l.fn.marks × All (λ range. range.2 < length l.marks) l.fn.tree
