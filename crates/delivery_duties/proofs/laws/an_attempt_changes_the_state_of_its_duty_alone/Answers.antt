use Rattle.delivery_duties.proofs.FateLemmas.{settled_own, settled_other}
use Rattle.delivery_duties.proofs.laws.an_attempt_changes_the_state_of_its_duty_alone.Goals as goal

pub returns-clause-own : goal.returns-clause-own
returns-clause-own c = settled_own

pub returns-clause-others : goal.returns-clause-others
returns-clause-others c = settled_other
