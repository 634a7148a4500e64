use Rattle.config_views.proofs.PushLemmas.{times_more}
use Rattle.config_views.proofs.replays.push_times.Goals as goal

pub returns : goal.returns
returns c =
    rw (
      c.in_ok-push_moment-2.ensures,
      c.in_ok-push_number-3.ensures,
      c.in_ok-push_moment.ensures,
      c.in_ok-push_number-2.ensures,
      c.in_ok-push_number.ensures,
      c.from.ensures,
      c.from-2.ensures,
      c.last.ensures,
      c.from-3.ensures,
    )
    (times_more _ _ _ _ _ _)
