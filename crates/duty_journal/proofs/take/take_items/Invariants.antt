use Rattle.std.proofs.Common.{◌≡◌, ◌-◌, map}
use Rattle.std.specs.List.{AllByRecursion}
use Rattle.entry_bytes.specs.Reading.{items_at}
use Rattle.entry_bytes.proofs.Loops.{with_front}
use Rattle.router_requests.specs.View.{entry_of}
use Rattle.duty_journal.specs.Batch.{HasValidTexts}
use Rattle.duty_journal.specs.Reading.{operation_at}
use Rattle.duty_journal.proofs.take.take_items.Given as goal

abbrev pub invariant-loop : goal.invariant-loop
invariant-loop l = record {
  so_far : with_front (map entry_of l.entries.items) (items_at operation_at (l.count - l.counter) l.rest) ≡ items_at operation_at l.count l.bytes;
  valid : AllByRecursion HasValidTexts (map entry_of l.entries.items);
}
