use Rattle.rule_automaton.proofs.TableLemmas.{AreKept}
use Rattle.rule_automaton.proofs.table.Table.paths_without.Given as goal

abbrev pub invariant-loop-place : goal.invariant-loop-place
invariant-loop-place l = AreKept l.self l.number l.paths.items l.place
