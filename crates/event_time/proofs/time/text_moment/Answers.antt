use Rattle.std.proofs.Common.{refl, None}
use Rattle.event_time.proofs.Found.{not_found}
use Rattle.event_time.proofs.ClockLemmas.{shows_text, text_shows, writes_once, digits_moved}
use Rattle.event_time.proofs.time.text_moment.Goals as goal

pub returns-else-not-is_tail : goal.returns-else-not-is_tail
returns-else-not-is_tail c = λ n.
    let digits = c.in-Some.digits in (
      λ e. shows_text c.args.text.now digits c.in-Some.rest.now n c.in-Some.ensures (c.if-not-is_tail.ensures.0 refl) ((c.moment_of.ensures n).0 e),
      λ p. let s = text_shows c.args.text.now n p in
          let once = writes_once c.args.text.now digits s.0 c.in-Some.rest.now s.1 c.in-Some.ensures s.2 in
          (c.moment_of.ensures n).1 (s.4.0, s.4.1, digits_moved s.4.0 digits s.0 once.0 s.4.2),
    )

pub returns-in-None : goal.returns-in-None
returns-in-None c = not_found None refl (λ n p.
    let s = text_shows c.args.text.now n p in c.in-None.ensures s.0 s.1 s.2)
