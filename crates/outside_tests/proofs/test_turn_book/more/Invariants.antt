use Rattle.std.proofs.Common.{◌≡◌, ◌+◌, length, All}
use Rattle.turn_book.specs.Passes.{view, IsFree}
use Rattle.outside_tests.proofs.test_turn_book.more.Given as goal

abbrev pub invariant-loop : goal.invariant-loop
invariant-loop g l =
    (l.pass.seat.table_id ≡ l.initial.hall.table.shared.table_id)
    × IsFree l.pass.seat
    × ((view l.pass.seat).made ≡ 1 + length l.others.items)
    × (length l.others.items ≡ l.counter)
    × All (λ p. (p.seat.table_id ≡ l.initial.hall.table.shared.table_id) × IsFree p.seat) l.others.items
