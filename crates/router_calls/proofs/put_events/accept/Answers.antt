use Rattle.std.proofs.Common.{refl, ◌∙◌, subst}
use Rattle.json_text.specs.Moment.{IsMoment}
use Rattle.event_time.specs.Time.{IsIso}
use Rattle.event_shape.specs.Unnumbered.{with_number}
use Rattle.router_calls.proofs.put_events.accept.Goals as goal

pub returns-clause-accepted : goal.returns-clause-accepted
returns-clause-accepted c = λ time at.
    let event = c.numbered.ensures.event.1 in
    record {
      number = refl;
      bus = c.in_ok-bus.ensures ∙ c.bus.ensures;
      version = refl;
      at = c.moment.ensures.value;
      text = c.in_ok-text.ensures ∙ c.in_ok-numbered.ensures.text;
      archives = refl;
      duties = c.in_ok-duties.ensures time at;
      is_event = record {
        number = event.number;
        account = event.account;
        is_moment = subst IsMoment c.moment.ensures.value c.moment.ensures.moment;
        time = subst (λ n. IsIso n c.args.event.now.event.time) c.moment.ensures.value c.moment.ensures.shown;
        content = event.content;
      };
    }

pub returns-clause-text : goal.returns-clause-text
returns-clause-text c = (
  with_number c.args.number c.args.event.now.event,
  record { written = c.in_ok-text.ensures ∙ c.in_ok-numbered.ensures.text; is_event = c.numbered.ensures.event },
)
