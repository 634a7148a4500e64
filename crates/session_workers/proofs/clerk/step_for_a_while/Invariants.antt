use Rattle.std.proofs.Common.{ℕ, List}
use Rattle.router_disk.specs.Link.{Exchange}
use Rattle.turn_book.specs.Passes.{IsFree, IsSamePass}
use Rattle.courier_run.specs.Link.{outside}
use Rattle.router_history.specs.Book.{IsBook, Rests}
use Rattle.router_sessions.specs.Desk.{turns_seen, number_of, seen_by}
use Rattle.session_workers.specs.Jobs.{GoesOn}
use Rattle.session_workers.proofs.clerk.step_for_a_while.Given as goal

abbrev pub invariant-loop : goal.invariant-loop
invariant-loop g l = record {
  same : IsSamePass l.initial.pass.seat l.pass.seat;
  free : IsFree l.pass.seat;
  book : IsBook (turns_seen l.pass.seat);
  rests : Rests (number_of l.initial.pass.seat) (turns_seen l.pass.seat);
  goes_on : (answered : List Exchange) (faults : ℕ) → GoesOn g.I.Source.gave g.O.Sink.wrote (number_of l.initial.pass.seat)
      (outside (g.C.Clock.gave l.initial.clock) answered faults) (outside (g.C.Clock.gave l.clock) answered faults) (seen_by l.initial.pass.seat)
      (seen_by l.pass.seat);
}
