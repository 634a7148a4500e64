use Rattle.std.proofs.Common.{length}
use Rattle.rule_automaton.proofs.entries.+table_of.Given as goal

abbrev pub decreases-table_of : goal.decreases-table_of
decreases-table_of l = length l.rules.now
