use Rattle.std.proofs.Common.{ℕ, sym, subst}
use Rattle.router_history.specs.Book.{Rests}
use Rattle.router_sessions.specs.Desk.{number_of, seen_by, turns_seen}
use Rattle.router_sessions.proofs.OwesLemmas.{owes_rests, rests_owes}
use Rattle.session_tests.proofs.halls.session.Goals as goal

pub serve_session-requires-clause-rests : goal.serve_session-requires-clause-rests
serve_session-requires-clause-rests g c κs lives = owes_rests (number_of c.args.pass.now.seat) (seen_by c.args.pass.now.seat) c.requires.owes

pub returns-clause-owes : goal.returns-clause-owes
returns-clause-owes g c =
    let new = c.serve_session.new.pass.seat in
    rests_owes (number_of new) (seen_by new) (subst (λ (n : ℕ). Rests n (turns_seen new)) (sym c.serve_session.ensures.pass.0.1) c.serve_session.ensures.rests)
