use Rattle.std.proofs.Common.{◌≡◌, Some, subst}
use Rattle.event_shape.specs.Names.{queue_in}
use Rattle.event_shape.proofs.NameLemmas.{queue_named}
use Rattle.router_history.proofs.held.HeldHeldDuty.way.Goals as goal

pub returns-in-Some : goal.returns-in-Some
returns-in-Some c =
    let queue = c.in-Some.field-0.now in
    let named = subst (λ t. queue_in t ≡ Some queue) c.endpoint.ensures c.in-Some.ensures in
    (queue, (queue_named c.args.self.now.errand.target.endpoint queue).0 named)
