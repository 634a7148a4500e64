use Rattle.std.proofs.Common.{◌≡◌, ◌∙◌, ◌++◌, ◌∷◌, ◌+◌, ◌-◌, [], ap, sym, drop, slice_get, arith}
use Rattle.drill_requests.specs.Messages.{set_up_messages, event_messages}
use Rattle.drill_requests.proofs.PlaceLemmas.{first_left, event_left, none_left}
use Rattle.drill_requests.proofs.requests.DrillMessages.next.Goals as goal

before_events : (c : goal.After-self-1)
    → c.args.self.now ≡ c.in_ok-bytes.bytes.items ∷ (drop (c.self.inside.place + 1) set_up_messages ++ event_messages c.self.inside.state c.self.inside.events)
before_events c =
    sym c.self.view_is
    ∙ first_left set_up_messages (event_messages c.self.inside.state c.self.inside.events) c.self.inside.place c.in_ok-bytes.bytes.items c.in_ok-bytes.ensures

pub returns-in_ok-bytes-clause-first : goal.returns-in_ok-bytes-clause-first
returns-in_ok-bytes-clause-first c = sym (ap (λ xs. slice_get xs 0) (before_events c))

pub returns-in_ok-bytes-clause-rest : goal.returns-in_ok-bytes-clause-rest
returns-in_ok-bytes-clause-rest c = sym (ap (drop 1) (before_events c))

at_end : (c : goal.Then-self-eq0) → c.args.self.now ≡ []
at_end c =
    let last : c.self.inside.place ≡ 23 = omega arith in
    sym c.self.view_is ∙ none_left c.self.inside.place c.self.inside.state c.self.inside.events last c.if-self-eq0.true

pub returns-then-self-eq0-clause-first : goal.returns-then-self-eq0-clause-first
returns-then-self-eq0-clause-first c = sym (ap (λ xs. slice_get xs 0) (at_end c))

pub returns-then-self-eq0-clause-rest : goal.returns-then-self-eq0-clause-rest
returns-then-self-eq0-clause-rest c = at_end c ∙ sym (ap (drop 1) (at_end c))

at_event : (c : goal.After-self-else-self-eq0-2-1)
    → c.args.self.now
    ≡ c.in_ok-bytes-2.bytes.items ∷ (drop c.self.inside.place set_up_messages ++ event_messages c.next_state-second.result (c.self.inside.events - 1))
at_event c =
    let last : c.self.inside.place ≡ 23 = omega arith in
    sym c.self.view_is
    ∙ event_left c.self.inside.place c.self.inside.state c.next_state-first.result c.next_state-second.result c.drawn.result
    c.drawn-else-self-eq0.result c.self.inside.events c.in_ok-bytes-2.bytes.items last c.if-self-eq0.false c.next_state-first.ensures.next
    c.next_state-second.ensures.next c.drawn.ensures c.drawn-else-self-eq0.ensures c.in_ok-bytes-2.ensures

pub returns-in_ok-bytes-2-clause-first : goal.returns-in_ok-bytes-2-clause-first
returns-in_ok-bytes-2-clause-first c = sym (ap (λ xs. slice_get xs 0) (at_event c))

pub returns-in_ok-bytes-2-clause-rest : goal.returns-in_ok-bytes-2-clause-rest
returns-in_ok-bytes-2-clause-rest c = sym (ap (drop 1) (at_event c))
