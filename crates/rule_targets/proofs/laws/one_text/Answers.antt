use Rattle.rule_targets.proofs.InputLemmas.{one_text}
use Rattle.rule_targets.proofs.laws.one_text.Goals as goal

pub returns : goal.returns
returns c = one_text
