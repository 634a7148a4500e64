use Rattle.std.proofs.Common.{subst, sym}
use Rattle.rule_automaton.specs.AnchorView.{parts_of}
use Rattle.rule_automaton.specs.Anchors.{AreAnchorsOf}
use Rattle.rule_automaton.proofs.rule.Rule.anchored.Goals as goal

pub invariant_of-result : goal.invariant_of-result
invariant_of-result c = record {
  covered = ∣ (λ _. subst (λ l. AreAnchorsOf c.args.pattern (parts_of l.items)) (sym c.in_ok-anchors.ensures.ok) c.requires) ∣₁;
}
