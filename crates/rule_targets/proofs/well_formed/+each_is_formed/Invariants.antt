use Rattle.std.proofs.Common.{length}
use Rattle.rule_targets.proofs.well_formed.+each_is_formed.Given as goal

abbrev pub decreases-each_is_formed : goal.decreases-each_is_formed
decreases-each_is_formed l = length l.targets.now
