use Rattle.std.proofs.Common.{length}
use Rattle.rule_automaton.proofs.matching.+decide.Given as goal

abbrev pub decreases-decide : goal.decreases-decide
decreases-decide l = length l.rules.now
