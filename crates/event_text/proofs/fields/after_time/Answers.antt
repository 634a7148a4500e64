use Rattle.std.proofs.Common.{arith}
use Rattle.event_text.proofs.EventLemmas.{time_is_iso}
use Rattle.event_text.proofs.fields.after_time.Goals as goal

pub returns-then-moment-le-LAST_MOMENT : goal.returns-then-moment-le-LAST_MOMENT
returns-then-moment-le-LAST_MOMENT c =
    let time = c.in_ok-time.time.now in
    let moment = c.in-Some.moment in
    (time, moment, omega arith, time_is_iso time moment c.in_ok-time.ensures.len ((c.text_moment.ensures moment).0 c.in-Some.is), c.in_ok-time.ensures.text)
