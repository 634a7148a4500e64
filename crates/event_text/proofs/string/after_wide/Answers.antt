use Rattle.event_text.proofs.TextLemmas.{wide_begins}
use Rattle.event_text.proofs.string.after_wide.Goals as goal

pub returns-in-Ok-clause-text : goal.returns-in-Ok-clause-text
returns-in-Ok-clause-text c = (
  c.split_at.result.0.now,
  wide_begins c.args.bytes.now c.split_at.result.0.now c.split_at.result.1.now c.plain_len-plain.result c.plain_len-plain.ensures.within c.plain_len-plain.ensures.plain
      c.split_at.ensures.front c.split_at.ensures.back c.in-Ok.ensures.cases.1,
)
