use Rattle.std.proofs.Common.{refl}
use Rattle.rule_table.specs.WellFormed.{IsSpelled}
use Rattle.router_requests.specs.Batch.{control}
use Rattle.entry_bytes.specs.ChangeReading.{change_at}
use Rattle.duty_journal.specs.Batch.{HasValidTexts}
use Rattle.duty_journal.proofs.Finding.{made_none}
use Rattle.duty_journal.proofs.operation.take_changed.Goals as goal

pub returns-in-Ok : goal.returns-in-Ok
returns-in-Ok c = (rw c.in-Ok.ensures.0 refl, c.in-Ok.ensures.1)

pub returns-in-Err : goal.returns-in-Err
returns-in-Err c = made_none control IsSpelled HasValidTexts (λ x h. h) (change_at c.args.bytes.now) c.in-Err.fault c.in-Err.ensures
