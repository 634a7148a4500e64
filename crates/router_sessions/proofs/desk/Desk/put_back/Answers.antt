use Rattle.std.proofs.Common.{ℕ, List, sym, subst}
use Rattle.courier_run.specs.Steps.{unsent}
use Rattle.router_history.specs.declared.book.Seat.{Seat}
use Rattle.router_history.specs.History.{Turn}
use Rattle.router_history.specs.Held.{held_claim}
use Rattle.router_history.specs.Book.{Rests}
use Rattle.router_history.specs.Answered.{IsPutBack}
use Rattle.router_sessions.specs.Desk.{turns_seen}
use Rattle.router_sessions.proofs.DeskLemmas.{seen_of, taken, back_later, holds_there, extends, own_number, pass_of}
use Rattle.router_sessions.proofs.desk.Desk.put_back.Goals as goal

pub put_back-requires-clause-holds : goal.put_back-requires-clause-holds
put_back-requires-clause-holds g c κs lives =
    holds_there c.seat-seat.result c.args.pass.now.seat c.take-book.result.machine (held_claim c.args.held)
    (own_number c.args.self.connection c.args.pass.now.seat c.seat-seat.result c.seat-seat.ensures) c.requires.book c.take-book.ensures.sound.kept
    c.take-book.ensures.history c.requires.holds

pub give-requires-clause-longer : goal.give-requires-clause-longer
give-requires-clause-longer g c =
    extends c.seat-seat.result c.take-book.new.pass.seat c.take-book.result.machine c.put_back.new.self.machine c.put_back.ensures.grows c.take-book.ensures.seen
    (pass_of c.args.self.connection c.args.pass.now.seat c.take-book.new.pass.seat c.seat-seat.result c.seat-seat.ensures c.take-book.ensures.pass.0)

pub returns-clause-rests : goal.returns-clause-rests
returns-clause-rests g c =
    subst (λ (n : ℕ). Rests n (turns_seen c.give.new.pass.seat)) (own_number c.args.self.connection c.args.pass.now.seat c.seat-seat.result c.seat-seat.ensures)
    (subst (λ (ts : List Turn). Rests c.seat-seat.result.pass ts) (sym (seen_of c.put_back.new.self.machine c.give.new.pass.seat c.give.ensures.seen)) c.put_back.ensures.rests)

pub returns-clause-put_back : goal.returns-clause-put_back
returns-clause-put_back g c =
    subst (λ (s : Seat). IsPutBack s (held_claim c.args.held) unsent (turns_seen c.args.pass.now.seat) (turns_seen c.give.new.pass.seat)) c.seat-seat.ensures
    (back_later (held_claim c.args.held) unsent
    (taken c.seat-seat.result c.args.pass.now.seat c.give.new.pass.seat c.take-book.result.machine c.put_back.new.self.machine
    (own_number c.args.self.connection c.args.pass.now.seat c.seat-seat.result c.seat-seat.ensures) c.requires.book c.take-book.ensures.history
    c.take-book.ensures.sound.kept c.give.ensures.seen) c.put_back.ensures.put_back)
