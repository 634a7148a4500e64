use Rattle.std.proofs.Common.{◌≡◌, List, [], ◌∷◌, ◌++◌, sym, ap, ◌∙◌, append_assoc, refl}
use Rattle.json_text.specs.View.{tree_of}
use Rattle.rule_table.specs.RuleSet.{Rule}
use Rattle.router_requests.proofs.MatchingLemmas.{matched_more, matched_same}
use Rattle.router_requests.proofs.matching.matched.Goals as goal

pub loop-rule-preserved-in-Continue-1 : goal.loop-rule-preserved-in-Continue-1
loop-rule-preserved-in-Continue-1 c =
    let done = c.loop-rule.invariant.0 in
    let rule = c.in-Some-next.rule.now in
    let grown : (done ++ rule ∷ []) ++ c.next.new.self ≡ c.rules-rules.result =
    append_assoc done (rule ∷ []) c.next.new.self ∙ ap (λ (rs : List Rule). done ++ rs) (sym c.in-Some-next.ensures.steps) ∙ c.loop-rule.invariant.1 in (
      done ++ rule ∷ [],
      grown,
      matched_more done rule (tree_of c.args.event.now) c.loop-rule.targets.items c.push_targets.new.targets.items c.loop-rule.invariant.2
          (c.matches.ensures.yes c.if-matches.true) c.in_ok-push_targets.ensures,
    )

pub loop-rule-preserved : goal.loop-rule-preserved
loop-rule-preserved c =
    let done = c.loop-rule.invariant.0 in
    let rule = c.in-Some-next.rule.now in
    let grown : (done ++ rule ∷ []) ++ c.next.new.self ≡ c.rules-rules.result =
    append_assoc done (rule ∷ []) c.next.new.self ∙ ap (λ (rs : List Rule). done ++ rs) (sym c.in-Some-next.ensures.steps) ∙ c.loop-rule.invariant.1 in (
      done ++ rule ∷ [],
      grown,
      matched_same done rule (tree_of c.args.event.now) c.loop-rule.targets.items c.loop-rule.targets.items c.loop-rule.invariant.2
          (c.matches.ensures.not c.if-matches.false) refl,
    )
