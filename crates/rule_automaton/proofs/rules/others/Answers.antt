use Rattle.std.proofs.Common.{◌+◌, List, filter, take, ap, sym, ◌∙◌, subst}
use Rattle.rule_automaton.specs.declared.rule.Rule.{Rule}
use Rattle.rule_automaton.specs.Table.{AreSame}
use Rattle.rule_automaton.proofs.RuleLemmas.{other_rule, other_next, other_skipped}
use Rattle.rule_automaton.proofs.rules.others.Goals as goal
use Rattle.rule_automaton.proofs.rules.others.Goals.{then-rule-number+in_ok-copy+in_ok-push, else-rule-number}

pub loop-rule-preserved : goal.loop-rule-preserved
loop-rule-preserved c =
    let rules = c.args.rules.now in
    let n = c.args.number in
    let i = c.loop-rule.rule-index in
    let rule = c.rule-item.result in
    let copies = c.loop-rule.copies.items in
    let more = c.if-rule-number.copies.items in
    elim c.if-rule-number.branch [
      | then-rule-number+in_ok-copy+in_ok-push w ↦ other_next n rules i rule copies w.in_ok-copy.copy more c.loop-rule-test.true c.rule-item.is w.if-rule-number.true
          c.loop-rule.invariant w.in_ok-copy.ensures.rule w.in_ok-copy.ensures.anchors.1 (ap (λ v. v.items) w.copies-is ∙ w.in_ok-push.ensures.items)
      | else-rule-number w ↦ subst (λ (l : List Rule). AreSame (filter (other_rule n) (take (i + 1) rules)) l) (sym (ap (λ v. v.items) w.copies-is))
          (other_skipped n rules i rule copies c.loop-rule-test.true c.rule-item.is w.if-rule-number.false c.loop-rule.invariant)
    ]
