use Rattle.std.proofs.Common.{◌≡◌, length}
use Rattle.event_flatten.specs.Path.{path_cmp}
use Rattle.event_flatten.proofs.path.compare.Given as goal

-- what is left of both is in the order of both
abbrev pub invariant-loop-a : goal.invariant-loop-a
invariant-loop-a l = path_cmp l.a l.b ≡ path_cmp l.fn.a l.fn.b

abbrev pub decreases-loop-a : goal.decreases-loop-a
decreases-loop-a l = length l.a
