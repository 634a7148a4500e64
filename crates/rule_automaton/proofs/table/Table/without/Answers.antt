use Rattle.std.proofs.Common.{length, arith}
use Rattle.rule_automaton.specs.Table.{others}
use Rattle.rule_automaton.proofs.TableLemmas.{table_made}
use Rattle.rule_automaton.proofs.table.Table.without.Goals as goal

pub returns : goal.returns
returns c = λ all is. table_made (others c.args.number all) _ (length c.in_ok-paths.paths) (omega arith) (λ path e h. c.in_ok-paths.ensures all path e is h)
    (c.in_ok-indexes.ensures.exact all is)
