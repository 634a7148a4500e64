use Rattle.json_text.proofs.OneValue as lemmas
use Rattle.json_text.proofs.laws.one_value.Goals as goal

pub returns : goal.returns
returns c = lemmas.one_value
