use Rattle.std.proofs.Common.{◌≡◌, ◌++◌, length}
use Rattle.std.specs.Prelude.{filter}
use Rattle.router_core.proofs.ReplayingLemmas.{passes_target}
use Rattle.router_core.proofs.replaying.passing.Given as goal

-- what is kept so far, with what is kept of the targets that are left, is what is kept of all
abbrev pub invariant-loop-seen : goal.invariant-loop-seen
invariant-loop-seen l = l.left.items ++ filter (passes_target l.rules) l.targets.items ≡ filter (passes_target l.rules) l.fn.targets.items

abbrev pub decreases-loop-seen : goal.decreases-loop-seen
decreases-loop-seen l = length l.targets.items
