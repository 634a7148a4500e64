use Rattle.delivery_duties.proofs.FateLemmas.{first_own, first_other, one_by_one}
use Rattle.delivery_duties.proofs.laws.a_duty_begins_in_its_first_state.Goals as goal

pub returns-clause-own : goal.returns-clause-own
returns-clause-own c = first_own

pub returns-clause-others : goal.returns-clause-others
returns-clause-others c = first_other

pub returns-clause-each : goal.returns-clause-each
returns-clause-each c = one_by_one
