use Rattle.delivery_duties.proofs.FateLemmas.{acts_state, acts_fate, acts_numbered}
use Rattle.delivery_duties.proofs.laws.a_fate_is_that_of_the_recorded_attempts.Goals as goal

pub returns-clause-state : goal.returns-clause-state
returns-clause-state c = acts_state

pub returns-clause-fate : goal.returns-clause-fate
returns-clause-fate c = acts_fate

pub returns-clause-numbered : goal.returns-clause-numbered
returns-clause-numbered c = acts_numbered
