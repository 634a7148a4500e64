use Rattle.std.proofs.Common.{◌≡◌, ◌≢◌, ◌+◌, ◌++◌, ◌<◌, ◌≤◌, ℕ, [], map, reverse, All, Contains}
use Rattle.std.specs.List.{AllPairs}
use Rattle.std.specs.Prelude.{vec_len, vec_capacity}
use Rattle.turn_book.specs.Rule.{Learns, turns_by}
use Rattle.turn_book.specs.Passes.{view, HasSameTurn}
use Rattle.door_workers.specs.Serving.{IsHired}
use Rattle.door_workers.proofs.staff.hire.Given as goal

abbrev pub invariant-loop-own : goal.invariant-loop-own
invariant-loop-own g l = record {
  here : l.pass.seat.table_id ≡ l.initial.pass.seat.table_id;
  turn : HasSameTurn l.initial.pass.seat l.pass.seat;
  number : (view l.pass.seat).number ≡ (view l.initial.pass.seat).number;
  more : Learns g.V.Story.made_by (view l.initial.pass.seat) (view l.pass.seat).seen;
  made : (view l.pass.seat).made ≡ (view l.initial.pass.seat).made + vec_len l.workers;
  count : vec_len l.workers + vec_len l.owns ≡ vec_len l.initial.owns;
  room : vec_capacity l.workers ≡ vec_capacity l.initial.workers;
  owns_room : vec_capacity l.owns ≡ vec_capacity l.initial.owns;
  fresh : All (λ w. (turns_by g.V.Story.made_by (view w.pass.seat).number (view w.pass.seat).seen ≡ []) × (w.lent.value ≡ w.own)) l.workers.items;
  lent : l.initial.owns.items ≡ l.owns.items ++ reverse (map (λ w. w.lent.value) l.workers.items);
  numbers : (n : ℕ) → (view l.initial.pass.seat).made ≤ n → n < (view l.pass.seat).made → Contains (map (λ w. (view w.pass.seat).number) l.workers.items) n;
  distinct : AllPairs (λ n m. n ≢ m) (map (λ w. (view w.pass.seat).number) l.workers.items);
  below : All (λ n. n < (view l.pass.seat).made) (map (λ w. (view w.pass.seat).number) l.workers.items);
  hired : All (λ w. IsHired g.V.Served.rests l.initial.hall.table.shared.table_id l.initial.acts.name w.pass.seat w.front) l.workers.items;
}

abbrev pub decreases-loop-own : goal.decreases-loop-own
decreases-loop-own g l = vec_len l.owns
