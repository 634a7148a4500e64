use Rattle.std.proofs.Common.{arith}
use Rattle.std.proofs.lemmas.Bool.Decides.{nat_tests}
use Rattle.std.specs.List.{AllByRecursion}
use Rattle.duty_journal.specs.Batch.{HasValidTexts}
use Rattle.duty_journal.specs.Reading.{operations_at}
use Rattle.entry_bytes.proofs.Finding.{missing_so}
use Rattle.entry_bytes.specs.declared.fault.ReadFault.TheVariants as fault
use Rattle.duty_journal.proofs.Finding.{operations_counted, no_operations, count_missing}
use Rattle.duty_journal.proofs.take.take_operations.Goals as goal

pub returns-then-count-eq0 : goal.returns-then-count-eq0
returns-then-count-eq0 c = missing_so (AllByRecursion HasValidTexts) (operations_at c.args.bytes.now) fault.NotSpelled
    (no_operations c.args.bytes.now c.in-Ok.count c.in-Ok.rest.now c.in-Ok.ensures (grind (arith, nat_tests, c.if-count-eq0.true)))

pub returns-else-count-eq0 : goal.returns-else-count-eq0
returns-else-count-eq0 c = rw (operations_counted c.args.bytes.now c.in-Ok.count c.in-Ok.rest.now c.in-Ok.ensures (grind (arith, nat_tests, c.if-count-eq0.false))) c.take_items.ensures

pub returns-in-Err : goal.returns-in-Err
returns-in-Err c = missing_so (AllByRecursion HasValidTexts) (operations_at c.args.bytes.now) c.in-Err.fault
    (count_missing c.args.bytes.now c.in-Err.fault c.in-Err.ensures)
