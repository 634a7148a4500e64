use Rattle.std.proofs.Common.{◌-◌, ◌*◌, length}
use Rattle.numeric_keys.proofs.ranges.+mark_under.Given as goal

-- how many nodes there are from this one on
abbrev pub decreases-mark_under : goal.decreases-mark_under
decreases-mark_under l = 2 * length l.ranges.now - l.node
