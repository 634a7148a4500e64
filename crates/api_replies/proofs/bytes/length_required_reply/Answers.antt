use Rattle.std.proofs.Common.{refl}
use Rattle.std.specs.Fmt.{digits}
use Rattle.api_replies.proofs.bytes.length_required_reply.Goals as goal

pub returns : goal.returns
unfolding digits
returns c = refl
