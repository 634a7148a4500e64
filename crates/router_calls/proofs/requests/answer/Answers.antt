use Rattle.std.proofs.Common.{List, ap, sym, subst}
use Rattle.std.specs.Prelude.{IfOk}
use Rattle.json_text.specs.View.{tree_of}
use Rattle.router_requests.specs.View.{action_of}
use Rattle.router_requests.specs.Matching.{IsSeenResult}
use Rattle.router_requests.specs.declared.request.Action.{Action}
use Rattle.router_calls.specs.Accepted.{Given, entries_seen}
use Rattle.resource_calls.specs.Decided.{decided_of}
use Rattle.router_calls.specs.Steps.{IsDecidedAs, IsPublication}
use Rattle.router_calls.proofs.requests.answer.Goals as goal

pub test_event_pattern-requires : goal.test_event_pattern-requires
test_event_pattern-requires c =
    let set = c.requires.seen.0 in
    let caller = c.requires.seen.1 in
    let result = c.args.seen.now.result in
    let seen = subst (λ a. IsSeenResult set caller a result) (ap action_of c.in-TestEventPattern.is) c.requires.seen.2.result in
    (set, caller, c.in-TestEventPattern.pattern, tree_of c.in-TestEventPattern.event, seen)

pub returns-in-PutEvents-clause-answer : goal.returns-in-PutEvents-clause-answer
returns-in-PutEvents-clause-answer c =
    let t = c.args.tables.now in
    let seen = c.args.seen.now in
    subst (λ (a : Action). IfOk c.put_events.result (λ d. IsDecidedAs t c.args.moment seen (action_of a) (decided_of d))) (sym c.in-PutEvents.is)
    (subst (λ (es : List Given). IfOk c.put_events.result
    (λ d. IsPublication t seen.k c.args.moment es (entries_seen t.set seen.result) c.in-PutEvents.size (decided_of d)))
    c.deref-in-PutEvents.ensures.value c.put_events.ensures.answer)

pub returns-in-PutRule-clause-answer : goal.returns-in-PutRule-clause-answer
returns-in-PutRule-clause-answer c =
    subst (λ (a : Action). IfOk c.put_rule.result
    (λ d. IsDecidedAs c.args.tables.now c.args.moment c.args.seen.now (action_of a) (decided_of d))) (sym c.in-PutRule.is) c.put_rule.ensures.answer
