use Rattle.rule_table.proofs.LawLemmas.{other_stays}
use Rattle.rule_table.proofs.laws.other_buses_stay.Goals as goal

pub returns : goal.returns
returns c = other_stays
