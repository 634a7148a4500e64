use Rattle.std.proofs.Common.{[], subst}
use Rattle.router_requests.specs.View.{request_of}
use Rattle.router_history.specs.declared.book.Seat.{Seat}
use Rattle.router_history.specs.Acts.{Makes}
use Rattle.router_history.specs.Answered.{IsAnswered, IsUnanswered}
use Rattle.router_sessions.specs.Desk.{turns_seen}
use Rattle.router_sessions.proofs.DeskLemmas.{taken, answered_later, unanswered_later, learned_alone, extends, own_number, pass_of}
use Rattle.router_history.proofs.ResultLemmas.{map_ok}
use Rattle.router_sessions.proofs.desk.Desk.make_turn.Goals as goal

pub give-requires-clause-longer : goal.give-requires-clause-longer
give-requires-clause-longer g c =
    extends c.seat-seat.result c.take-book.new.pass.seat c.take-book.result.machine c.match_and_turn-made.new.book.machine c.match_and_turn-made.ensures.grows c.take-book.ensures.seen
    (pass_of c.args.self.connection c.args.pass.now.seat c.take-book.new.pass.seat c.seat-seat.result c.seat-seat.ensures c.take-book.ensures.pass.0)

pub returns-clause-answered : goal.returns-clause-answered
returns-clause-answered g c = map_ok c.match_and_turn-made.result _ _
    (λ made is. subst (λ (s : Seat). IsAnswered s (turns_seen c.args.pass.now.seat) (turns_seen c.give.new.pass.seat) (request_of c.args.request.now) c.args.close made.reply)
    c.seat-seat.ensures
    (answered_later (request_of c.args.request.now) c.args.close made.reply
    (taken c.seat-seat.result c.args.pass.now.seat c.give.new.pass.seat c.take-book.result.machine c.match_and_turn-made.new.book.machine
    (own_number c.args.self.connection c.args.pass.now.seat c.seat-seat.result c.seat-seat.ensures) c.requires.book c.take-book.ensures.history
    c.take-book.ensures.sound.kept c.give.ensures.seen) is))
    c.match_and_turn-made.ensures.answered

pub returns-clause-unchanged : goal.returns-clause-unchanged
returns-clause-unchanged g c = λ is.
    subst (λ (s : Seat). Makes s [] (turns_seen c.args.pass.now.seat) (turns_seen c.give.new.pass.seat)) c.seat-seat.ensures
    (learned_alone c.seat-seat.result c.args.pass.now.seat c.give.new.pass.seat c.take-book.result.machine c.match_and_turn-made.new.book.machine
    (own_number c.args.self.connection c.args.pass.now.seat c.seat-seat.result c.seat-seat.ensures) c.take-book.ensures.history c.give.ensures.seen
    (c.match_and_turn-made.ensures.unchanged is))

pub returns-clause-broken : goal.returns-clause-broken
returns-clause-broken g c = λ is.
    subst (λ (s : Seat). IsUnanswered s (turns_seen c.args.pass.now.seat) (turns_seen c.give.new.pass.seat) (request_of c.args.request.now)) c.seat-seat.ensures
    (unanswered_later (request_of c.args.request.now)
    (taken c.seat-seat.result c.args.pass.now.seat c.give.new.pass.seat c.take-book.result.machine c.match_and_turn-made.new.book.machine
    (own_number c.args.self.connection c.args.pass.now.seat c.seat-seat.result c.seat-seat.ensures) c.requires.book c.take-book.ensures.history
    c.take-book.ensures.sound.kept c.give.ensures.seen) (c.match_and_turn-made.ensures.broken is))
