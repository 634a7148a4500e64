use Rattle.std.proofs.Common.{◌<◌, length, refl, ap, ◌∙◌, sym, subst}
use Rattle.rule_table.specs.Control.{targets_put}
use Rattle.rule_table.specs.View.{control_of}
use Rattle.resource_calls.specs.Decided.{decided_of}
use Rattle.router_calls.specs.Targets.{accepted_targets, failed_targets}
use Rattle.router_calls.proofs.CallLemmas.{if_ok_more}
use Rattle.router_calls.proofs.DecidedLemmas.{items_decided}
use Rattle.router_calls.proofs.TargetLemmas.{accepted_so, failed_so, put_allowed, put_formed_so}
use Rattle.router_calls.proofs.put_targets.put_to.Goals as goal

pub change_with_reports-requires-clause-allowed : goal.change_with_reports-requires-clause-allowed
change_with_reports-requires-clause-allowed c = λ some.
    let kept : 0 < length c.in_ok-accepted.field-0.accepted.items =
    subst (λ ts. 0 < length ts) c.as_slice.ensures.value (c.are_some-some.ensures.some some) in
    put_allowed c.set.result.now c.args.tables.now.set c.args.bus.now c.args.rule.now c.args.old.now c.args.targets.now _ c.in_ok-accepted.field-0
    c.in_ok-accepted.field-0.accepted.items (control_of c.in_ok-control.control) c.requires.there c.set.ensures c.targets.ensures.targets c.in_ok-accepted.ensures
    refl c.in_ok-control.ensures kept

pub change_with_reports-requires-clause-form : goal.change_with_reports-requires-clause-form
change_with_reports-requires-clause-form c = λ some.
    let kept : 0 < length c.in_ok-accepted.field-0.accepted.items =
    subst (λ ts. 0 < length ts) c.as_slice.ensures.value (c.are_some-some.ensures.some some) in
    put_formed_so c.set.result.now c.args.tables.now.set c.args.bus.now c.args.rule.now c.args.targets.now _ c.in_ok-accepted.field-0
    c.in_ok-accepted.field-0.accepted.items (control_of c.in_ok-control.control) c.requires.names c.requires.few c.requires.valid c.in_ok-accepted.ensures
    refl c.in_ok-control.ensures
    (put_allowed c.set.result.now c.args.tables.now.set c.args.bus.now c.args.rule.now c.args.old.now c.args.targets.now _ c.in_ok-accepted.field-0
    c.in_ok-accepted.field-0.accepted.items (control_of c.in_ok-control.control) c.requires.there c.set.ensures c.targets.ensures.targets c.in_ok-accepted.ensures
    refl c.in_ok-control.ensures kept)

pub returns-clause-answer : goal.returns-clause-answer
returns-clause-answer c =
    let set = c.args.tables.now.set in
    let old = c.args.old.now in
    let targets = c.args.targets.now in
    let all = c.in_ok-accepted.field-0 in
    let items = accepted_so c.set.result.now set old targets _ all c.set.ensures c.targets.ensures.targets c.in_ok-accepted.ensures in
    let reports = failed_so c.set.result.now set old targets _ all c.set.ensures c.targets.ensures.targets c.in_ok-accepted.ensures in
    if_ok_more c.change_with_reports.result (λ d h. items_decided c.in_ok-accepted.field-0.accepted.items (accepted_targets set old.targets targets)
    (control_of c.in_ok-control.control) (targets_put c.args.bus.now c.args.rule.now (accepted_targets set old.targets targets)) c.in_ok-accepted.field-0.reports.items
    (failed_targets set old.targets targets) c.are_some-some.result (decided_of d) items
    (c.in_ok-control.ensures ∙ ap (targets_put c.args.bus.now c.args.rule.now) items) reports
    (λ some. subst (λ ts. 0 < length ts) c.as_slice.ensures.value (c.are_some-some.ensures.some some))
    (λ none. ap length (sym c.as_slice.ensures.value) ∙ c.are_some-some.ensures.none none) h) c.change_with_reports.ensures.answer
