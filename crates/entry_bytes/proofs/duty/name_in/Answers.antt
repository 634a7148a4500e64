use Rattle.input_transform.proofs.SceneLemmas.{name_after, name_alone}
use Rattle.entry_bytes.proofs.duty.name_in.Goals as goal

pub returns-in-Some : goal.returns-in-Some
returns-in-Some c = name_after c.args.arn.now c.in-Some._front.now c.in-Some.name.now c.in-Some.ensures.cases

pub returns-in-None : goal.returns-in-None
returns-in-None c = name_alone c.args.arn.now c.in-None.ensures.cases
