use Rattle.std.proofs.Common.{ℕ}
use Rattle.turn_book.specs.Passes.{IsFree, IsSamePass}
use Rattle.router_history.specs.Book.{Rests}
use Rattle.router_sessions.specs.Desk.{turns_seen}
use Rattle.drill_run.specs.Drill.{IsDelivering}
use Rattle.drill_run.proofs.run.deliver.Given as goal

abbrev pub invariant-rounds : goal.invariant-rounds
invariant-rounds g l = record {
  same : IsSamePass l.initial.pass.seat l.pass.seat;
  free : IsFree l.pass.seat;
  rests : Rests 0 (turns_seen l.pass.seat);
  delivering : (seed events : ℕ) → IsDelivering seed events (turns_seen l.initial.pass.seat) → IsDelivering seed events (turns_seen l.pass.seat);
}
