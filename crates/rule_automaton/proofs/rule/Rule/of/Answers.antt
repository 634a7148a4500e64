use Rattle.std.proofs.Common.{subst}
use Rattle.std.specs.Prelude.{IfSome}
use Rattle.pattern_meaning.specs.PatternView.{pattern_of}
use Rattle.rule_automaton.specs.AnchorView.{parts_of}
use Rattle.rule_automaton.specs.Anchors.{AreAnchors}
use Rattle.rule_automaton.proofs.RuleLemmas.{anchors_of_text}
use Rattle.rule_automaton.proofs.rule.Rule.of.Goals as goal

pub anchored-requires : goal.anchored-requires
anchored-requires c =
    anchors_of_text c.args.pattern c.pattern-read.result.now (pattern_of c.pattern-meaning.result.now) (parts_of c.in-Some.anchors.items) c.pattern-read.ensures
    c.pattern-meaning.ensures.text
    (subst (λ x. IfSome x (λ anchors. AreAnchors (pattern_of c.pattern-meaning.result.now) (parts_of anchors.items))) c.in-Some.is c.in_ok-chosen.ensures)
