use Rattle.std.proofs.Common.{◌≡◌, ◌↔◌, subst, sym}
use Rattle.json_text.specs.Moment.{IsMoment}
use Rattle.event_time.specs.Time.{IsIso, IsTimeText}
use Rattle.event_shape.proofs.time.iso.Goals as goal

pub returns-clause-value : goal.returns-clause-value
returns-clause-value c = subst (λ t. IsIso c.args.moment t) (sym c.from.ensures) c.in_ok-iso.ensures.value

pub returns-clause-inverse : goal.returns-clause-inverse
returns-clause-inverse c = λ n.
    let found = subst (λ t. IsTimeText t n ↔ (n ≡ c.args.moment)) (sym c.from.ensures) (c.in_ok-iso.ensures.inverse n) in
    (λ p. found.0 p.1, λ e. (subst IsMoment (sym e) c.requires, found.1 e))
