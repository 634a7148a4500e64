use Rattle.std.proofs.Common.{◌≡◌, ◌++◌, ◌∷◌, [], map}
use Rattle.std.proofs.lemmas.List.{map_push}
use Rattle.entry_bytes.specs.Reading.{items_at}
use Rattle.entry_bytes.proofs.Loops.{goes_on, is_refused, is_done, all_more}
use Rattle.router_requests.specs.View.{entry_of}
use Rattle.duty_journal.specs.Batch.{HasValidTexts}
use Rattle.duty_journal.specs.Reading.{operation_at}
use Rattle.duty_journal.proofs.take.take_items.Goals as goal

pub returns-in-Err : goal.returns-in-Err
returns-in-Err c = is_refused operation_at HasValidTexts (map entry_of c.loop.entries.items) c.args.count c.loop.counter c.loop.rest.now
    (items_at operation_at c.args.count c.args.bytes.now) c.in-Err.fault c.loop-test.true c.in-Err.ensures c.loop.invariant.so_far

pub loop-preserved : goal.loop-preserved
loop-preserved c =
    let x = c.in-Ok.entry in
    let e : map entry_of c.push.new.self.items ≡ map entry_of c.loop.entries.items ++ entry_of x ∷ []
    = rw c.in_ok-push-in-Ok.ensures.items (map_push entry_of c.loop.entries.items x) in
    record {
      so_far = rw e (goes_on operation_at (map entry_of c.loop.entries.items) c.args.count c.loop.counter c.loop.rest.now (entry_of x) c.in-Ok.after.now
          (items_at operation_at c.args.count c.args.bytes.now) c.loop-test.true c.in-Ok.ensures.0 c.loop.invariant.so_far);
      valid = rw e (all_more HasValidTexts (map entry_of c.loop.entries.items) (entry_of x) c.loop.invariant.valid c.in-Ok.ensures.1);
    }

pub returns : goal.returns
returns c = (
  is_done operation_at (map entry_of c.loop.entries.items) c.args.count c.loop.counter c.loop.rest.now (items_at operation_at c.args.count c.args.bytes.now)
      c.loop-test.false c.loop.invariant.so_far,
  c.loop.invariant.valid,
)
