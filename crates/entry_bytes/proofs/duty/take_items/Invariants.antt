use Rattle.std.proofs.Common.{◌≡◌, ◌-◌}
use Rattle.entry_bytes.specs.Reading.{items_at}
use Rattle.entry_bytes.specs.DutyReading.{duty_at}
use Rattle.entry_bytes.proofs.Loops.{with_front}
use Rattle.entry_bytes.proofs.duty.take_items.Given as goal

abbrev pub invariant-loop : goal.invariant-loop
invariant-loop l = with_front l.duties.items (items_at duty_at (l.count - l.counter) l.rest) ≡ items_at duty_at l.count l.bytes
