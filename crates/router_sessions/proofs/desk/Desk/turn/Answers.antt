use Rattle.router_requests.specs.View.{request_of}
use Rattle.router_history.specs.declared.fault.RequestFault.TheVariants as faults
use Rattle.router_history.specs.Answered.{IsAnswered, IsRenderable}
use Rattle.router_sessions.specs.Desk.{turns_seen, seat_of}
use Rattle.router_sessions.proofs.DeskLemmas.{reply_ok, reply_err}
use Rattle.router_sessions.proofs.desk.Desk.turn.Goals as goal

pub returns-clause-answered : goal.returns-clause-answered
returns-clause-answered g c =
    reply_ok (λ m. m.reply) c.make_turn-made.result _
    (IsAnswered (seat_of c.args.self.connection c.args.pass.now.seat) (turns_seen c.args.pass.now.seat)
    (turns_seen c.make_turn-made.new.pass.seat) (request_of c.args.request) c.args.close) c.made_reply.ensures c.make_turn-made.ensures.answered

pub returns-clause-renderable : goal.returns-clause-renderable
returns-clause-renderable g c =
    reply_ok (λ m. m.reply) c.make_turn-made.result _ IsRenderable c.made_reply.ensures c.make_turn-made.ensures.renderable

pub returns-clause-unchanged : goal.returns-clause-unchanged
returns-clause-unchanged g c = λ is.
    c.make_turn-made.ensures.unchanged (reply_err (λ m. m.reply) c.make_turn-made.result _ faults.NoMemory c.made_reply.ensures is)

pub returns-clause-broken : goal.returns-clause-broken
returns-clause-broken g c = λ is.
    c.make_turn-made.ensures.broken (reply_err (λ m. m.reply) c.make_turn-made.result _ faults.Broken c.made_reply.ensures is)
