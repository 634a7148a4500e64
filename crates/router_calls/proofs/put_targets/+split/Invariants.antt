use Rattle.std.proofs.Common.{length}
use Rattle.router_calls.proofs.put_targets.+split.Given as goal

abbrev pub decreases-split : goal.decreases-split
decreases-split l = length l.targets.now
