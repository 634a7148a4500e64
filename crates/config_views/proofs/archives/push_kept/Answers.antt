use Rattle.config_views.proofs.PushLemmas.{five_more}
use Rattle.config_views.proofs.archives.push_kept.Goals as goal

pub returns : goal.returns
returns c =
    rw (
      c.in_ok-push_number-4.ensures,
      c.in_ok-push_number-3.ensures,
      c.in_ok-push_number-2.ensures,
      c.in_ok-push_number.ensures,
      c.in_ok-push_text.ensures.pushed,
      c.from.ensures,
      c.days.ensures,
      c.counts-events.ensures.bytes,
      c.from-2.ensures,
      c.counts-events.ensures.events,
      c.from-3.ensures,
      c.created.ensures,
    )
    (five_more _ _ _ _ _ _)
