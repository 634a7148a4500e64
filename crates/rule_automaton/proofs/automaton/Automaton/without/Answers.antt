use Rattle.std.proofs.Common.{List, filter, sym, ◌∙◌, subst}
use Rattle.std.proofs.Math.Logic.{∥∥₁_map}
use Rattle.rule_automaton.specs.declared.rule.Rule.{Rule}
use Rattle.rule_automaton.specs.Table.{AreSame, Entered, IsTableOf, entered_by_all}
use Rattle.rule_automaton.proofs.RuleLemmas.{other_rule}
use Rattle.rule_automaton.proofs.TableLemmas.{other_rules, other_seen}
use Rattle.rule_automaton.proofs.automaton.Automaton.without.Goals as goal

pub invariant_of-result : goal.invariant_of-result
invariant_of-result c =
    let rules = c.args.self.now.rules.items in
    let n = c.args.number in
    let same = subst (λ (l : List Rule). AreSame (filter (other_rule n) l) c.in_ok-rules.rules.items) c.deref.ensures.value c.in_ok-rules.ensures in
    record {
      entered = ∥∥₁_map c.args.self.now.entered (λ is. subst (λ (l : List Entered). IsTableOf l c.in_ok-table.table) (sym (same.entered ∙ other_rules n rules))
          (c.in_ok-table.ensures (entered_by_all rules) is));
    }

pub returns : goal.returns
returns c =
    let rules = c.args.self.now.rules.items in
    let n = c.args.number in
    let same = subst (λ (l : List Rule). AreSame (filter (other_rule n) l) c.in_ok-rules.rules.items) c.deref.ensures.value c.in_ok-rules.ensures in
    same.seen ∙ other_seen n rules
