use Rattle.entry_bytes.specs.Reading.{items_at}
use Rattle.entry_bytes.specs.DutyReading.{duty_at}
use Rattle.entry_bytes.proofs.Loops.{goes_on, is_over, is_done}
use Rattle.entry_bytes.proofs.duty.take_items.Goals as goal

pub returns-in-Err : goal.returns-in-Err
returns-in-Err c = is_over duty_at c.loop.duties.items c.args.count c.loop.counter c.loop.rest.now (items_at duty_at c.args.count c.args.bytes.now) c.in-Err.fault
    c.loop-test.true c.in-Err.ensures c.loop.invariant

pub loop-preserved : goal.loop-preserved
loop-preserved c = rw c.in_ok-push-in-Ok.ensures.items
    (goes_on duty_at c.loop.duties.items c.args.count c.loop.counter c.loop.rest.now c.in-Ok.duty c.in-Ok.after.now (items_at duty_at c.args.count c.args.bytes.now)
    c.loop-test.true c.in-Ok.ensures c.loop.invariant)

pub returns : goal.returns
returns c = is_done duty_at c.loop.duties.items c.args.count c.loop.counter c.loop.rest.now (items_at duty_at c.args.count c.args.bytes.now)
    c.loop-test.false c.loop.invariant
