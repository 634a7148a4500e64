use Rattle.std.proofs.Common.{refl}
use Rattle.std.specs.Fmt.{digits}
use Rattle.api_replies.specs.Pieces.{status_line}
use Rattle.api_replies.proofs.bytes.status_line.Goals as goal

pub returns-in-200-clause-text : goal.returns-in-200-clause-text
unfolding status_line digits
returns-in-200-clause-text c = rw c.in-200.is refl

pub returns-in-400-clause-text : goal.returns-in-400-clause-text
unfolding status_line digits
returns-in-400-clause-text c = rw c.in-400.is refl

pub returns-in-503-clause-text : goal.returns-in-503-clause-text
unfolding status_line digits
returns-in-503-clause-text c = rw c.in-503.is refl
