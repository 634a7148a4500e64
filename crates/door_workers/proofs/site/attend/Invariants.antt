use Rattle.std.proofs.Common.{◌≡◌}
use Rattle.turn_book.specs.Passes.{IsFree, IsSamePass}
use Rattle.door_workers.specs.Serving.{HasWorked}
use Rattle.door_workers.proofs.site.attend.Given as goal

abbrev pub invariant-loop : goal.invariant-loop
invariant-loop g l = record {
  same : IsSamePass l.initial.worker.pass.seat l.worker.pass.seat;
  free : IsFree l.worker.pass.seat;
  rests : g.V.Served.rests l.worker.pass.seat.me.0.number l.worker.pass.seat.me.0.seen;
  front : l.worker.front.name ≡ g.N.Naming.acts;
  worked : HasWorked g.W.Work.did l.worker.front.items l.worker.pass.seat l.worker.lent.value l.worker.own;
  lent : l.worker.lent ≡ l.initial.worker.lent;
}
