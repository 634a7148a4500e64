use Rattle.std.specs.Arc.{arc_value}
use Rattle.std.proofs.Common.{ap}
use Rattle.rule_automaton.proofs.RuleLemmas.{covered_too}
use Rattle.rule_automaton.proofs.rule.Rule.share.Goals as goal

pub invariant_of-result : goal.invariant_of-result
invariant_of-result c =
    let rule = c.args.self.now in record {
      covered = covered_too rule.anchored rule.pattern c.in_ok-pattern.pattern (arc_value rule.anchors).items (arc_value c.in_ok-anchors.anchors).items
          c.in_ok-pattern.ensures (ap (λ v. v.items) c.in_ok-anchors.ensures) rule.covered;
    }
