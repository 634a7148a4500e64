use Rattle.std.proofs.Common.{ℕ, Some, sym, subst}
use Rattle.router_history.specs.Book.{Rests}
use Rattle.router_sessions.specs.Desk.{seat_of, turns_seen}
use Rattle.router_sessions.proofs.SessionLemmas.{session_looked, unlooked, ended_at}
use Rattle.router_sessions.proofs.session.serve_session.Goals as goal

pub converse-requires-clause-rests : goal.converse-requires-clause-rests
converse-requires-clause-rests g c κs lives =
    subst (λ (n : ℕ). Rests n (turns_seen c.look.new.pass.seat)) (sym c.look.ensures.pass.0.1) (c.look.ensures.rests c.requires.rests)

pub returns-clause-rests : goal.returns-clause-rests
returns-clause-rests g c = subst (λ (n : ℕ). Rests n (turns_seen c.converse.new.pass.seat)) c.look.ensures.pass.0.1 c.converse.ensures.rests

pub returns-clause-session : goal.returns-clause-session
returns-clause-session g c =
    session_looked (seat_of (Some c.args.connection) c.args.pass.now.seat) (turns_seen c.args.pass.now.seat) (turns_seen c.look.new.pass.seat)
    (turns_seen c.converse.new.pass.seat) _ _ _ _ _ _ _ _ _ _ c.converse.result
    (unlooked (seat_of (Some c.args.connection) c.args.pass.now.seat) (turns_seen c.args.pass.now.seat) (turns_seen c.look.new.pass.seat) _ c.look.ensures.looked)
    (ended_at (Some c.args.connection) c.args.pass.now.seat c.look.new.pass.seat _ _ c.converse.result c.look.ensures.pass.0 c.converse.ensures.ended)
