use Rattle.std.proofs.Common.{sym, subst}
use Rattle.event_shape.specs.Event.{IsEventText}
use Rattle.router_core.proofs.replaying.event_of.Goals as goal

pub unreachable-requires : goal.unreachable-requires
unreachable-requires c =
    let (e, is) = c.text.ensures.event in
    let none = rw c.in-None.is at c.in_ok-event.ensures.found in none e (subst (λ t. IsEventText t e) (sym c.as_bytes.ensures.value) is)
