use Rattle.std.proofs.Common.{refl}
use Rattle.std.specs.Fmt.{digits}
use Rattle.api_replies.proofs.bytes.head_too_large_reply.Goals as goal

pub returns : goal.returns
unfolding digits
returns c = refl
