use Rattle.duty_journal.proofs.Readable.{own_bytes}
use Rattle.duty_journal.proofs.laws.a_batch_has_its_own_bytes.Goals as goal

pub returns : goal.returns
returns c = own_bytes
