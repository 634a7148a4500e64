use Rattle.std.proofs.Common.{◌≡◌, ◌+◌, ◌++◌, ℕ, List, map, reverse, All}
use Rattle.std.specs.Prelude.{vec_len, vec_capacity}
use Rattle.turn_book.specs.Rule.{Learns}
use Rattle.turn_book.specs.Passes.{view, known_by, HasSameTurn, IsSamePass}
use Rattle.door_workers.specs.Serving.{IsRestingPass, HasWorked, HasCrew}
use Rattle.door_workers.proofs.staff.dismiss.Given as goal

abbrev pub invariant-loop-worker : goal.invariant-loop-worker
invariant-loop-worker g l = record {
  same : IsSamePass l.initial.pass.seat l.pass.seat;
  turn : HasSameTurn l.initial.pass.seat l.pass.seat;
  more : Learns g.V.Story.made_by (view l.initial.pass.seat) (view l.pass.seat).seen;
  workers : All (λ w. IsRestingPass g.V.Served.rests l.initial.hall.table.shared.table_id w.pass.seat) l.workers.items;
  worked : All (λ w. HasWorked g.W.Work.did l.acts.items w.pass.seat w.lent.value w.own) l.workers.items;
  crew : (gone : List (ℕ × g.row.Own.Denot))
      × (map (λ w. ((view w.pass.seat).number, w.lent.value)) l.initial.workers.items ≡ map (λ w. ((view w.pass.seat).number, w.lent.value)) l.workers.items ++ reverse gone)
      × HasCrew g.W.Work.did l.acts.items gone l.owns.items (map (λ p. known_by p.seat) l.passes.items);
  passes : All (λ p. IsRestingPass g.V.Served.rests l.initial.hall.table.shared.table_id p.seat) l.passes.items;
  count : vec_len l.passes + vec_len l.workers ≡ vec_len l.initial.passes + vec_len l.initial.workers;
  owns_count : vec_len l.owns + vec_len l.workers ≡ vec_len l.initial.owns + vec_len l.initial.workers;
  room : vec_capacity l.passes ≡ vec_capacity l.initial.passes;
  owns_room : vec_capacity l.owns ≡ vec_capacity l.initial.owns;
}

abbrev pub decreases-loop-worker : goal.decreases-loop-worker
decreases-loop-worker g l = vec_len l.workers
