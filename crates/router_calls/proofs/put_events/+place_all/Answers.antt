use Rattle.std.proofs.Common.{subst}
use Rattle.router_calls.specs.Accepted.{IsPlaced, found_of}
use Rattle.router_calls.specs.Steps.{placed_of}
use Rattle.router_calls.proofs.CallLemmas.{first_and_rest, on_ok_more}
use Rattle.router_calls.proofs.EntryLemmas.{placed_first, adds_event, adds_refusal}
use Rattle.router_calls.proofs.put_events.+place_all.Goals as goal

pub returns-in_ok-push_event-in-Ok : goal.returns-in_ok-push_event-in-Ok
returns-in_ok-push_event-in-Ok t c =
    let entry = c.entry-item.result in
    let all = first_and_rest c.args.entries.now entry c.in-len1-up.len_at_least c.entry-item.is in
    on_ok_more c.place_all.result
    (λ more time at.
    let became = subst (λ p. IsPlaced c.args.k c.args.number time entry (found_of c.args.set.now c.in-Some.seen) (placed_of p)) c.in-Ok.is
    (c.in_ok-event-in-Some.ensures.placed time at) in
    placed_first c.args.set.now c.args.k c.args.number c.args.moment time c.args.entries.now _ entry c.args.found.now.items c.pop_front.new.self.items c.in-Some.seen _ c.args.all.now
    c.push_event.new.all c.place_all.new.all all c.in-Some.ensures.items became
    (λ rest adds. adds_event c.args.moment c.in-Ok.event rest c.args.all.now c.push_event.new.all c.place_all.new.all c.in_ok-push_event-in-Ok.ensures adds)
    (more time at))
    c.place_all.ensures

pub returns-in_ok-push_refusal-in-Err : goal.returns-in_ok-push_refusal-in-Err
returns-in_ok-push_refusal-in-Err t c =
    let entry = c.entry-item.result in
    let all = first_and_rest c.args.entries.now entry c.in-len1-up.len_at_least c.entry-item.is in
    on_ok_more c.place_all-in-Err.result
    (λ more time at.
    let became = subst (λ p. IsPlaced c.args.k c.args.number time entry (found_of c.args.set.now c.in-Some.seen) (placed_of p)) c.in-Err.is
    (c.in_ok-event-in-Some.ensures.placed time at) in
    placed_first c.args.set.now c.args.k c.args.number c.args.moment time c.args.entries.now _ entry c.args.found.now.items c.pop_front.new.self.items c.in-Some.seen _ c.args.all.now
    c.push_refusal.new.all c.place_all-in-Err.new.all all c.in-Some.ensures.items became
    (λ rest adds. adds_refusal c.args.moment c.in-Err.cause rest c.args.all.now c.push_refusal.new.all c.place_all-in-Err.new.all
    c.in_ok-push_refusal-in-Err.ensures adds)
    (more time at))
    c.place_all-in-Err.ensures
