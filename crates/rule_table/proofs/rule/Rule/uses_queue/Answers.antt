use Rattle.std.proofs.Common.{ap, ◌∙◌}
use Rattle.std.specs.List.{list_any}
use Rattle.rule_table.specs.RuleSet.{is_used_by_target}
use Rattle.rule_table.proofs.TargetLemmas.{any_stored}
use Rattle.rule_table.proofs.rule.Rule.uses_queue.Goals as goal

pub returns : goal.returns
returns c =
    let queue = c.args.queue.now in
    c.any_uses.ensures ∙ any_stored queue c.targets.result.now ∙ ap (list_any (is_used_by_target queue)) c.targets.ensures.targets
