use Rattle.std.proofs.Common.{◌∙◌, ap}
use Rattle.json_text.specs.Tree.{text}
use Rattle.json_text.specs.View.{tree_of}
use Rattle.json_text.proofs.ViewLemmas.{tree_of_text}
use Rattle.event_shape.specs.Names.{rule_arn}
use Rattle.config_views.proofs.PushLemmas.{mapped_more}
use Rattle.config_views.proofs.replays.rule_arns.Goals as goal

pub loop-rule-preserved : goal.loop-rule-preserved
loop-rule-preserved c =
    let bus = c.args.bus.now in
    let value = tree_of_text c.in_ok-rule_arn.field-0 ∙ ap text (c.in_ok-rule_arn.ensures ∙ ap (rule_arn bus) c.as_str.ensures) in
    rw c.in_ok-push.ensures.items
    (mapped_more (λ name. text (rule_arn bus name)) tree_of c.args.rules.now c.loop-rule.rule-index c.rule-item.result c.loop-rule.items.items _
    c.loop-rule-test.true c.rule-item.is value c.loop-rule.invariant)
