use Rattle.std.proofs.Common.{◌≡◌, ◌-◌, ◌<◌, None}
use Rattle.turn_book.specs.Passes.{IsFree, IsSamePass}
use Rattle.router_history.specs.Book.{IsBook, Rests}
use Rattle.router_sessions.specs.Desk.{turns_seen, number_of, seat_of, SeesMore}
use Rattle.router_history.specs.Session.{request_limit}
use Rattle.router_history.specs.Acts.{world}
use Rattle.router_sessions.proofs.SessionLemmas.{IsRunning}
use Rattle.router_sessions.proofs.session.converse.Given as goal

abbrev pub invariant-loop-message : goal.invariant-loop-message
invariant-loop-message g l = record {
  running : IsRunning (seat_of l.initial.desk.connection l.initial.pass.seat)
      (world (turns_seen l.initial.pass.seat) (g.S.Source.gave l.initial.input) (g.K.Sink.wrote l.initial.output) (g.C.Clock.gave l.initial.clock)
      (g.L.Link.exchanges l.initial.link) (g.L.Link.faults l.initial.link))
      (world (turns_seen l.pass.seat) (g.S.Source.gave l.input) (g.K.Sink.wrote l.output) (g.C.Clock.gave l.clock) (g.L.Link.exchanges l.link)
      (g.L.Link.faults l.link))
      l.wire.rest l.served;
  same : IsSamePass l.initial.pass.seat l.pass.seat;
  free : IsFree l.pass.seat;
  first_book : IsBook (turns_seen l.initial.pass.seat);
  book : IsBook (turns_seen l.pass.seat);
  more : SeesMore l.initial.pass.seat l.pass.seat;
  rests : Rests (number_of l.initial.pass.seat) (turns_seen l.pass.seat);
  unrefused : l.wire.refused ≡ None;
  below : l.served < request_limit;
  input_faultless : g.S.Source.faults l.input ≡ g.S.Source.faults l.initial.input;
  output_faultless : g.K.Sink.faults l.output ≡ g.K.Sink.faults l.initial.output;
}

abbrev pub decreases-loop-message : goal.decreases-loop-message
decreases-loop-message g l = request_limit - l.served
