use Rattle.std.proofs.Common.{◌≡◌, ℕ, List, ◌++◌, length}
use Rattle.turn_book.specs.Passes.{IsFree, IsSamePass}
use Rattle.drill_requests.specs.Messages.{drill_messages}
use Rattle.router_history.specs.Book.{Rests}
use Rattle.router_sessions.specs.Desk.{turns_seen}
use Rattle.drill_run.specs.Drill.{LeadTo}
use Rattle.drill_run.proofs.run.load.Given as goal

abbrev pub invariant-messages : goal.invariant-messages
invariant-messages g l = record {
  same : IsSamePass l.initial.pass.seat l.pass.seat;
  free : IsFree l.pass.seat;
  rests : Rests 0 (turns_seen l.pass.seat);
  loaded : (done : List (List ℕ)) × (done ++ l.messages ≡ drill_messages l.seed l.events) × LeadTo done (turns_seen l.pass.seat);
}

abbrev pub decreases-messages : goal.decreases-messages
decreases-messages g l = length l.messages
