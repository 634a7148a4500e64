use Rattle.api_members.proofs.ArnLemmas.{archive_named}
use Rattle.api_members.proofs.replay.archive_of.Goals as goal

pub returns : goal.returns
returns c = archive_named c.args.text.now c.archive_of_arn.result c.archive_of_arn.ensures
