use Rattle.std.proofs.Common.{subst, ap}
use Rattle.event_time.specs.Time.{IsIso}
use Rattle.event_shape.proofs.event.Event.moment.Goals as goal

pub returns-clause-shown : goal.returns-clause-shown
returns-clause-shown c = subst (λ t. IsIso c.self.inside.moment t) (ap (λ e. e.time) c.self.view_is) c.self.invariant.time
