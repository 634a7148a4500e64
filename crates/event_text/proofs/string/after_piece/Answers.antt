use Rattle.std.proofs.Common.{take}
use Rattle.event_text.proofs.TextLemmas.{ascii_begins}
use Rattle.event_text.proofs.string.after_piece.Goals as goal

pub returns-then-plain-gt0-clause-text : goal.returns-then-plain-gt0-clause-text
returns-then-plain-gt0-clause-text c = (
  take c.plain_len-plain.result c.args.bytes.now,
  ascii_begins c.args.bytes.now c.split_at.result.1.now c.plain_len-plain.result c.plain_len-plain.ensures.within c.plain_len-plain.ensures.plain c.split_at.ensures.back,
)
