use Rattle.router_core.proofs.BatchLemmas.{still_prepared}
use Rattle.router_core.proofs.laws.a_prepared_batch_stays_prepared.Goals as goal

pub returns : goal.returns
returns c = still_prepared
