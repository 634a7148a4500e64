use Rattle.std.proofs.Common.{ℕ, List, Some, subst}
use Rattle.event_shape.specs.Event.{event_tree}
use Rattle.rule_table.specs.RuleSet.{RuleSet}
use Rattle.router_requests.specs.Matching.{IsSeenEvent}
use Rattle.table_tests.proofs.test_router_core.meet.Goals as goal

pub step-requires-clause-seen : goal.step-requires-clause-seen
step-requires-clause-seen c =
    let event = c.in-Some.event in
    let seen = c.in_ok-seen-in-Some.seen in
    subst (λ (bus : List ℕ). IsSeenEvent c.args.tables.now.set bus (event_tree event (Some c.in-Some.name)) seen.0 seen.1.items) c.as_str.ensures
    (subst (λ (name : List ℕ). IsSeenEvent c.args.tables.now.set c.as_str.result.now (event_tree event (Some name)) seen.0 seen.1.items) c.as_str-in-Some.ensures
    (subst (λ (set : RuleSet). IsSeenEvent set c.as_str.result.now (event_tree event (Some c.as_str-in-Some.result.now)) seen.0 seen.1.items) c.set.ensures
    c.in_ok-seen-in-Some.ensures))
