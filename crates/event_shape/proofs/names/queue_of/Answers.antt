use Rattle.std.proofs.Common.{◌∙◌}
use Rattle.event_shape.proofs.NameLemmas.{queue_none}
use Rattle.event_shape.proofs.names.queue_of.Goals as goal

pub returns-in-None : goal.returns-in-None
returns-in-None c = queue_none c.args.arn.now c.in-None.ensures
