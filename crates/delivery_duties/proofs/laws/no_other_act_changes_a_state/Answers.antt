use Rattle.std.proofs.Common.{true, false, refl}
use Rattle.delivery_duties.proofs.FateLemmas.{marked_state}
use Rattle.delivery_duties.proofs.laws.no_other_act_changes_a_state.Goals as goal

pub returns-clause-claimed : goal.returns-clause-claimed
returns-clause-claimed c = marked_state true

pub returns-clause-unclaimed : goal.returns-clause-unclaimed
returns-clause-unclaimed c = marked_state false

pub returns-clause-created : goal.returns-clause-created
returns-clause-created c = λ s name n. refl

pub returns-clause-forgotten : goal.returns-clause-forgotten
returns-clause-forgotten c = λ s name n. refl

pub returns-clause-deleted : goal.returns-clause-deleted
returns-clause-deleted c = λ s queue through n. refl
