use Rattle.std.proofs.Common.{length}
use Rattle.rule_targets.proofs.well_formed.+each_is_id.Given as goal

abbrev pub decreases-each_is_id : goal.decreases-each_is_id
decreases-each_is_id l = length l.ids.now
