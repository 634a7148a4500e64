use Rattle.std.proofs.Common.{map}
use Rattle.router_requests.specs.View.{entry_of}
use Rattle.duty_journal.specs.Reading.{batch_at}
use Rattle.entry_bytes.proofs.Finding.{missing_so}
use Rattle.duty_journal.proofs.Finding.{HasValid, front_found, front_none, moment_missing}
use Rattle.duty_journal.proofs.take.take_front.Goals as goal

pub returns-in-Ok-take_operations : goal.returns-in-Ok-take_operations
returns-in-Ok-take_operations c = (
  front_found c.args.bytes.now c.in-Ok.moment c.in-Ok.rest.now (map entry_of c.in-Ok-take_operations.entries.items) c.in-Ok-take_operations.rest.now
      c.in-Ok.ensures c.in-Ok-take_operations.ensures.0,
  c.in-Ok-take_operations.ensures.1,
)

pub returns-in-Err-take_operations : goal.returns-in-Err-take_operations
returns-in-Err-take_operations c = front_none c.args.bytes.now c.in-Ok.moment c.in-Ok.rest.now c.in-Err-take_operations.fault c.in-Ok.ensures c.in-Err-take_operations.ensures

pub returns-in-Err : goal.returns-in-Err
returns-in-Err c = missing_so HasValid (batch_at c.args.bytes.now) c.in-Err.fault (moment_missing c.args.bytes.now c.in-Err.fault c.in-Err.ensures)
