use Rattle.input_transform.proofs.LawLemmas as lemmas
use Rattle.input_transform.proofs.laws.filled_text_spells_the_tree.Goals as goal

pub returns : goal.returns
returns c = lemmas.spells_tree
