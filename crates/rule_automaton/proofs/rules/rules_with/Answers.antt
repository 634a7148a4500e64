use Rattle.std.proofs.Common.{ap, ◌∙◌}
use Rattle.rule_automaton.proofs.RuleLemmas.{rules_next}
use Rattle.rule_automaton.proofs.rules.rules_with.Goals as goal

pub loop-number-preserved : goal.loop-number-preserved
loop-number-preserved c =
    rules_next c.args.patterns.now c.loop-number.number-index c.loop-number-item.result c.loop-number.rules.items c.in_ok-rule.rule c.push.new.self.items
    c.loop-number-test.true c.loop-number-item.is c.loop-number.invariant (c.in_ok-rule.ensures ∙ ap (λ p. (c.loop-number-item.result.0, p)) c.in_ok-pattern.ensures)
    c.in_ok-push.ensures.items
