use Rattle.api_members.proofs.ArnLemmas.{rule_named}
use Rattle.api_members.proofs.replay.rule_of.Goals as goal

pub returns : goal.returns
returns c = rule_named c.args.bus.now c.args.text.now c.rule_of_arn.result c.rule_of_arn.ensures
