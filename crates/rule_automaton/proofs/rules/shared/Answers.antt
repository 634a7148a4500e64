use Rattle.rule_automaton.proofs.RuleLemmas.{same_next}
use Rattle.rule_automaton.proofs.rules.shared.Goals as goal

pub loop-rule-preserved : goal.loop-rule-preserved
loop-rule-preserved c =
    same_next c.args.rules.now c.loop-rule.rule-index c.rule-item.result c.loop-rule.copies.items c.in_ok-copy.copy c.push.new.self.items c.loop-rule-test.true
    c.rule-item.is c.loop-rule.invariant c.in_ok-copy.ensures.rule c.in_ok-copy.ensures.anchors.1 c.in_ok-push.ensures.items
