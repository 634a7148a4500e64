use Rattle.std.proofs.Common.{refl}
use Rattle.std.specs.Fmt.{digits}
use Rattle.message_streams.proofs.failed.journal_failed_reply.Goals as goal

pub returns-then-close : goal.returns-then-close
unfolding digits
returns-then-close c = rw c.if-close.true refl

pub returns-else-close : goal.returns-else-close
unfolding digits
returns-else-close c = rw c.if-close.false refl
