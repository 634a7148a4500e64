use Rattle.rule_table.specs.WellFormed.{HasValidInput}
use Rattle.entry_bytes.specs.Reading.{items_at}
use Rattle.entry_bytes.specs.ChangeReading.{target_at}
use Rattle.entry_bytes.proofs.Loops.{goes_on, is_refused, is_done, all_more}
use Rattle.entry_bytes.proofs.target.take_items.Goals as goal

pub returns-in-Err : goal.returns-in-Err
returns-in-Err c = is_refused target_at HasValidInput c.loop.targets.items c.args.count c.loop.counter c.loop.rest.now (items_at target_at c.args.count c.args.bytes.now) c.in-Err.fault
    c.loop-test.true c.in-Err.ensures c.loop.invariant.so_far

pub loop-preserved : goal.loop-preserved
loop-preserved c = record {
  so_far = rw c.in_ok-push-in-Ok.ensures.items
      (goes_on target_at c.loop.targets.items c.args.count c.loop.counter c.loop.rest.now c.in-Ok.target c.in-Ok.after.now (items_at target_at c.args.count c.args.bytes.now)
      c.loop-test.true c.in-Ok.ensures.0 c.loop.invariant.so_far);
  valid = rw c.in_ok-push-in-Ok.ensures.items (all_more HasValidInput c.loop.targets.items c.in-Ok.target c.loop.invariant.valid c.in-Ok.ensures.1);
}

pub returns : goal.returns
returns c = (
  is_done target_at c.loop.targets.items c.args.count c.loop.counter c.loop.rest.now (items_at target_at c.args.count c.args.bytes.now)
      c.loop-test.false c.loop.invariant.so_far,
  c.loop.invariant.valid,
)
