use Rattle.std.proofs.Common.{◌≡◌, ◌-◌}
use Rattle.std.specs.List.{AllByRecursion}
use Rattle.rule_table.specs.WellFormed.{HasValidInput}
use Rattle.entry_bytes.specs.Reading.{items_at}
use Rattle.entry_bytes.specs.ChangeReading.{target_at}
use Rattle.entry_bytes.proofs.Loops.{with_front}
use Rattle.entry_bytes.proofs.target.take_items.Given as goal

abbrev pub invariant-loop : goal.invariant-loop
invariant-loop l = record {
  so_far : with_front l.targets.items (items_at target_at (l.count - l.counter) l.rest) ≡ items_at target_at l.count l.bytes;
  valid : AllByRecursion HasValidInput l.targets.items;
}
