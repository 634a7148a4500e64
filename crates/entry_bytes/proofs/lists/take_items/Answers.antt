use Rattle.entry_bytes.specs.Reading.{items_at}
use Rattle.entry_bytes.proofs.Loops.{goes_on, is_over, is_done}
use Rattle.entry_bytes.proofs.lists.take_items.Goals as goal

pub returns-in-Err : goal.returns-in-Err
returns-in-Err g c = is_over g.T.Take.at c.loop.items.items c.args.count c.loop.counter c.loop.rest.now (items_at g.T.Take.at c.args.count c.args.bytes.now) c.in-Err.fault
    c.loop-test.true c.in-Err.ensures c.loop.invariant

pub loop-preserved : goal.loop-preserved
loop-preserved g c = rw c.in_ok-push-in-Ok.ensures.items
    (goes_on g.T.Take.at c.loop.items.items c.args.count c.loop.counter c.loop.rest.now c.in-Ok.item c.in-Ok.after.now (items_at g.T.Take.at c.args.count c.args.bytes.now)
    c.loop-test.true c.in-Ok.ensures c.loop.invariant)

pub returns : goal.returns
returns g c = is_done g.T.Take.at c.loop.items.items c.args.count c.loop.counter c.loop.rest.now (items_at g.T.Take.at c.args.count c.args.bytes.now)
    c.loop-test.false c.loop.invariant
