use Rattle.std.proofs.Common.{refl}
use Rattle.std.specs.Fmt.{digits}
use Rattle.drill_run.proofs.run.no_attempt_reply.Goals as goal

pub returns : goal.returns
unfolding digits
returns c = refl
