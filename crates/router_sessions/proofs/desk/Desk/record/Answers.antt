use Rattle.std.proofs.Common.{ℕ, List, sym, subst}
use Rattle.router_history.specs.declared.book.Seat.{Seat}
use Rattle.router_history.specs.History.{Turn}
use Rattle.router_history.specs.Held.{held_claim}
use Rattle.router_history.specs.Book.{Rests}
use Rattle.router_history.specs.Answered.{IsRecorded, IsUnrecordedBy}
use Rattle.router_sessions.specs.Desk.{turns_seen}
use Rattle.router_sessions.proofs.DeskLemmas.{seen_of, taken, recorded_later, unrecorded_later, holds_there, extends, own_number, pass_of}
use Rattle.router_sessions.proofs.desk.Desk.record.Goals as goal

pub record-recorded-requires-clause-holds : goal.record-recorded-requires-clause-holds
record-recorded-requires-clause-holds g c κs lives =
    holds_there c.seat-seat.result c.args.pass.now.seat c.take-book.result.machine (held_claim c.args.held)
    (own_number c.args.self.connection c.args.pass.now.seat c.seat-seat.result c.seat-seat.ensures) c.requires.book c.take-book.ensures.sound.kept
    c.take-book.ensures.history c.requires.holds

pub give-requires-clause-longer : goal.give-requires-clause-longer
give-requires-clause-longer g c =
    extends c.seat-seat.result c.take-book.new.pass.seat c.take-book.result.machine c.record-recorded.new.self.machine c.record-recorded.ensures.grows c.take-book.ensures.seen
    (pass_of c.args.self.connection c.args.pass.now.seat c.take-book.new.pass.seat c.seat-seat.result c.seat-seat.ensures c.take-book.ensures.pass.0)

pub returns-in-Ok-clause-rests : goal.returns-in-Ok-clause-rests
returns-in-Ok-clause-rests g c =
    subst (λ (n : ℕ). Rests n (turns_seen c.give.new.pass.seat)) (own_number c.args.self.connection c.args.pass.now.seat c.seat-seat.result c.seat-seat.ensures)
    (subst (λ (ts : List Turn). Rests c.seat-seat.result.pass ts) (sym (seen_of c.record-recorded.new.self.machine c.give.new.pass.seat c.give.ensures.seen))
    c.record-recorded.ensures.rests)

pub returns-in-Err-clause-rests : goal.returns-in-Err-clause-rests
returns-in-Err-clause-rests g c =
    subst (λ (n : ℕ). Rests n (turns_seen c.give.new.pass.seat)) (own_number c.args.self.connection c.args.pass.now.seat c.seat-seat.result c.seat-seat.ensures)
    (subst (λ (ts : List Turn). Rests c.seat-seat.result.pass ts) (sym (seen_of c.record-recorded.new.self.machine c.give.new.pass.seat c.give.ensures.seen))
    c.record-recorded.ensures.rests)

pub returns-in-Ok-clause-recorded : goal.returns-in-Ok-clause-recorded
returns-in-Ok-clause-recorded g c =
    subst (λ (s : Seat). IsRecorded s (held_claim c.args.held) c.args.outcome c.in-Ok.fate (turns_seen c.args.pass.now.seat) (turns_seen c.give.new.pass.seat)) c.seat-seat.ensures
    (recorded_later (held_claim c.args.held) c.args.outcome c.in-Ok.fate
    (taken c.seat-seat.result c.args.pass.now.seat c.give.new.pass.seat c.take-book.result.machine c.record-recorded.new.self.machine
    (own_number c.args.self.connection c.args.pass.now.seat c.seat-seat.result c.seat-seat.ensures) c.requires.book c.take-book.ensures.history
    c.take-book.ensures.sound.kept c.give.ensures.seen) c.in-Ok.ensures.recorded)

pub returns-in-Err-clause-refused : goal.returns-in-Err-clause-refused
returns-in-Err-clause-refused g c =
    subst (λ (s : Seat). IsUnrecordedBy s (held_claim c.args.held) c.args.outcome c.in-Err.fault (turns_seen c.args.pass.now.seat) (turns_seen c.give.new.pass.seat))
    c.seat-seat.ensures
    (unrecorded_later (held_claim c.args.held) c.args.outcome c.in-Err.fault
    (taken c.seat-seat.result c.args.pass.now.seat c.give.new.pass.seat c.take-book.result.machine c.record-recorded.new.self.machine
    (own_number c.args.self.connection c.args.pass.now.seat c.seat-seat.result c.seat-seat.ensures) c.requires.book c.take-book.ensures.history
    c.take-book.ensures.sound.kept c.give.ensures.seen) c.in-Err.ensures.refused)
