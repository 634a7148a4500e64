use Rattle.std.proofs.Common.{◌≡◌, ◌-◌}
use Rattle.entry_bytes.specs.Reading.{items_at}
use Rattle.entry_bytes.proofs.Loops.{with_front}
use Rattle.entry_bytes.proofs.lists.take_items.Given as goal

abbrev pub invariant-loop : goal.invariant-loop
invariant-loop g l = with_front l.items.items (items_at g.T.Take.at (l.count - l.counter) l.rest) ≡ items_at g.T.Take.at l.count l.bytes
