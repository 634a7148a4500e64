use Rattle.std.proofs.Common.{refl, ◌∙◌, None}
use Rattle.event_time.proofs.Found.{not_found}
use Rattle.event_time.proofs.ClockLemmas.{seconds_same}
use Rattle.event_time.proofs.time.moment_of.Goals as goal

pub returns-in-Some : goal.returns-in-Some
returns-in-Some c = λ n. (
  λ e. (c.in-Some.civil, record { seconds = (c.moment_shown.ensures n).0 e; whole = c.in-Some.ensures.1 }, c.in-Some.ensures.0),
  λ p. (c.moment_shown.ensures n).1 (seconds_same c.in-Some.civil p.0 c.args.digits c.in-Some.ensures.0 p.2 ∙ p.1.seconds),
)

pub returns-in-None : goal.returns-in-None
returns-in-None c = not_found None refl (λ n p. c.in-None.ensures p.0 p.2)
