use Rattle.std.proofs.Common.{subst, ap}
use Rattle.event_time.specs.Time.{IsIso}
use Rattle.event_shape.proofs.unnumbered.Unnumbered.moment.Goals as goal

pub returns-clause-shown : goal.returns-clause-shown
returns-clause-shown c = subst (λ t. IsIso c.self.inside.moment t) (ap (λ u. u.event.time) c.self.view_is) c.self.invariant.event.time
