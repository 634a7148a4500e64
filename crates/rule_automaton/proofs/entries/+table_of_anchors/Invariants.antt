use Rattle.std.proofs.Common.{length}
use Rattle.rule_automaton.proofs.entries.+table_of_anchors.Given as goal

abbrev pub decreases-table_of_anchors : goal.decreases-table_of_anchors
decreases-table_of_anchors l = length l.anchors.now
