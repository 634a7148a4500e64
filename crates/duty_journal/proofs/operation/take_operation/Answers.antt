use Rattle.duty_journal.specs.Batch.{HasValidTexts}
use Rattle.duty_journal.specs.Reading.{other_at, operation_at}
use Rattle.entry_bytes.proofs.Finding.{plain_so, missing_so}
use Rattle.duty_journal.proofs.Finding.{operation_change, operation_other, operation_missing}
use Rattle.duty_journal.proofs.operation.take_operation.Goals as goal

pub returns-then-kind-le-LAST_CHANGE : goal.returns-then-kind-le-LAST_CHANGE
returns-then-kind-le-LAST_CHANGE c = rw (operation_change c.args.bytes.now c.in-Ok.kind c.in-Ok.rest.now c.in-Ok.ensures c.if-kind-le-LAST_CHANGE.true) c.take_changed.ensures

pub returns-else-kind-le-LAST_CHANGE : goal.returns-else-kind-le-LAST_CHANGE
returns-else-kind-le-LAST_CHANGE c = rw (operation_other c.args.bytes.now c.in-Ok.kind c.in-Ok.rest.now c.in-Ok.ensures c.if-kind-le-LAST_CHANGE.false)
    (plain_so _ HasValidTexts c.take_other.result (other_at c.in-Ok.kind c.in-Ok.rest.now) c.take_other.ensures.gives c.take_other.ensures.valid)

pub returns-in-Err : goal.returns-in-Err
returns-in-Err c = missing_so HasValidTexts (operation_at c.args.bytes.now) c.in-Err.fault (operation_missing c.args.bytes.now c.in-Err.fault c.in-Err.ensures)
