use Rattle.api_members.proofs.ArnLemmas.{source_found}
use Rattle.api_members.proofs.value.bus_in_arn.Goals as goal

pub returns : goal.returns
returns c = source_found c.args.text.now c.bus_of_arn.result c.bus_of_arn.ensures
