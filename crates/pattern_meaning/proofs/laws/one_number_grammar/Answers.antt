use Rattle.pattern_meaning.proofs.NumberLemmas.{to_keys, to_json}
use Rattle.pattern_meaning.proofs.laws.one_number_grammar.Goals as goal

pub returns : goal.returns
returns c text = (to_keys text, λ r. to_json r.0 text r.1)
