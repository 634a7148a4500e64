use Rattle.std.proofs.Common.{◌<◌, length, map, ap, ◌∙◌, sym, subst}
use Rattle.rule_table.specs.Control.{targets_removed}
use Rattle.call_replies.specs.Replies.{target_report}
use Rattle.rule_table.specs.View.{control_of}
use Rattle.resource_calls.specs.Decided.{decided_of}
use Rattle.router_calls.specs.Removals.{removed_ids, failed_ids}
use Rattle.router_calls.proofs.CallLemmas.{if_ok_more}
use Rattle.router_calls.proofs.DecidedLemmas.{items_decided}
use Rattle.router_calls.proofs.RemovalLemmas.{removed_allowed, removed_formed}
use Rattle.router_calls.proofs.remove_targets.remove_from.Goals as goal

pub change_with_reports-requires-clause-allowed : goal.change_with_reports-requires-clause-allowed
change_with_reports-requires-clause-allowed c = λ some.
    let items = c.in_ok-removed.ensures.removed ∙ ap (removed_ids c.args.ids.now) c.targets.ensures.targets in
    let kept : 0 < length c.in_ok-removed.field-0.removed.items =
    subst (λ ts. 0 < length ts) c.as_slice.ensures.value (c.are_some-some.ensures.some some) in
    removed_allowed c.args.tables.now.set c.args.bus.now c.args.rule.now c.args.old.now c.args.ids.now c.in_ok-removed.field-0.removed.items
    (control_of c.in_ok-control.control) c.requires.there items c.in_ok-control.ensures kept

pub change_with_reports-requires-clause-form : goal.change_with_reports-requires-clause-form
change_with_reports-requires-clause-form c = λ some.
    let items = c.in_ok-removed.ensures.removed ∙ ap (removed_ids c.args.ids.now) c.targets.ensures.targets in
    let kept : 0 < length c.in_ok-removed.field-0.removed.items =
    subst (λ ts. 0 < length ts) c.as_slice.ensures.value (c.are_some-some.ensures.some some) in
    removed_formed c.args.tables.now.set c.args.bus.now c.args.rule.now c.args.old.now c.args.ids.now c.in_ok-removed.field-0.removed.items
    (control_of c.in_ok-control.control) c.requires.names c.requires.few c.requires.ids items c.in_ok-control.ensures
    (removed_allowed c.args.tables.now.set c.args.bus.now c.args.rule.now c.args.old.now c.args.ids.now c.in_ok-removed.field-0.removed.items
    (control_of c.in_ok-control.control) c.requires.there items c.in_ok-control.ensures kept)

pub returns-clause-answer : goal.returns-clause-answer
returns-clause-answer c =
    let old = c.args.old.now in
    let ids = c.args.ids.now in
    let items = c.in_ok-removed.ensures.removed ∙ ap (removed_ids ids) c.targets.ensures.targets in
    let reports = c.in_ok-removed.ensures.reports
    ∙ ap (λ ts. map target_report (failed_ids ids ts)) c.targets.ensures.targets in
    if_ok_more c.change_with_reports.result (λ d h. items_decided c.in_ok-removed.field-0.removed.items (removed_ids ids old.targets) (control_of c.in_ok-control.control)
    (targets_removed c.args.bus.now c.args.rule.now (removed_ids ids old.targets)) c.in_ok-removed.field-0.reports.items (failed_ids ids old.targets)
    c.are_some-some.result (decided_of d) items (c.in_ok-control.ensures ∙ ap (targets_removed c.args.bus.now c.args.rule.now) items) reports
    (λ some. subst (λ ts. 0 < length ts) c.as_slice.ensures.value (c.are_some-some.ensures.some some))
    (λ none. ap length (sym c.as_slice.ensures.value) ∙ c.are_some-some.ensures.none none) h) c.change_with_reports.ensures.answer
