use Rattle.std.proofs.Common.{◌≡◌, ◌+◌, ◌<◌, ◌++◌, length, map, All, List}
use Rattle.turn_book.specs.declared.hall.Pass.{Pass}
use Rattle.turn_book.specs.Rule.{Learns}
use Rattle.turn_book.specs.Passes.{known_by, IsFree, HasSameTurn}
use Rattle.turn_book.proofs.hall.Hall.gather.Given as goal

abbrev pub invariant-loop-other : goal.invariant-loop-other
invariant-loop-other g l =
    (l.seat.table_id ≡ l.initial.seat.table_id)
    × HasSameTurn l.initial.seat l.seat
    × ((l.seat.me.0.made ≡ l.initial.seat.me.0.made) × (l.seat.me.0.number ≡ l.initial.seat.me.0.number))
    × ((0 < l.seat.me.0.passes) × (l.seat.me.0.passes + length l.others.items ≡ l.initial.seat.me.0.passes + length l.initial.others.items))
    × Learns g.V.Story.made_by l.initial.seat.me.0 l.seat.me.0.seen
    × All (λ p. (p.seat.table_id ≡ l.initial.self.table.shared.table_id) × IsFree p.seat) l.others.items
    × ((done : List (Pass g.row.V.Denot g.row.V-Turn.Denot g.V.Story)) × (l.initial.others.items ≡ l.others.items ++ done) × (l.seat.me.0.joined ≡ map (λ p. known_by p.seat) done ++ l.initial.seat.me.0.joined))

abbrev pub decreases-loop-other : goal.decreases-loop-other
decreases-loop-other g l = length l.others.items
