use Rattle.input_transform.proofs.LawLemmas as lemmas
use Rattle.input_transform.proofs.laws.one_template.Goals as goal

pub returns : goal.returns
returns c = lemmas.one_template
