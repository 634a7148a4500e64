use Rattle.duty_journal.proofs.RedoLemmas.{free_batch}
use Rattle.duty_journal.proofs.laws.no_batch_claims.Goals as goal

pub returns : goal.returns
returns c = record { first = tt; after = λ t b free. free_batch b t free }
