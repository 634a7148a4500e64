use Rattle.std.proofs.Common.{sym, ◌∙◌, subst}
use Rattle.std.specs.Prelude.{Contains}
use Rattle.rule_automaton.proofs.MemberLemmas.{nothing_in}
use Rattle.rule_automaton.proofs.TableLemmas.{empty_table, none_inside}
use Rattle.rule_automaton.proofs.table.Table.none.Goals as goal

pub invariant_of-result : goal.invariant_of-result
invariant_of-result c = record {
  same_length = c.new-indexes.ensures.len ∙ sym (none_inside c.of-paths.result (λ path h. nothing_in path (subst (λ l. Contains l path) c.new.ensures.items ((c.of-paths.ensures.same path).0 h))));
}

pub returns : goal.returns
returns c = empty_table _ (λ path h. nothing_in path (subst (λ l. Contains l path) c.new.ensures.items ((c.of-paths.ensures.same path).0 h)))
