use Rattle.std.proofs.Common.{ℕ, List, subst}
use Rattle.router_requests.specs.View.{accepted_of}
use Rattle.router_calls.specs.Accepted.{IsAcceptedAs}
use Rattle.router_calls.proofs.EntryLemmas.{allowed_placed}
use Rattle.router_calls.proofs.put_events.place.Goals as goal

pub returns-in_ok-accept-in-Ok-clause-placed : goal.returns-in_ok-accept-in-Ok-clause-placed
returns-in_ok-accept-in-Ok-clause-placed c = λ time at.
    allowed_placed c.args.set.now c.args.k c.args.number time c.in-Ok.event c.args.entry.now c.args.seen (accepted_of c.in_ok-accept-in-Ok.field-0) c.in-Ok.is c.in-Allowed.is
    (subst (λ (names : List (List ℕ)). IsAcceptedAs c.args.k c.args.number time c.in-Ok.event c.args.seen.targets.items names
    (accepted_of c.in_ok-accept-in-Ok.field-0)) c.in_ok-archives-in-Ok.ensures (c.in_ok-accept-in-Ok.ensures.accepted time at))
