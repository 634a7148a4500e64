use Rattle.std.proofs.Common.{refl}
use Rattle.router_sessions.specs.Desk.{seen_by, number_of}
use Rattle.session_workers.proofs.JobsLemmas.{done_steps, done_read, goes_again}
use Rattle.session_workers.proofs.clerk.deliver_once.Goals as goal

pub returns-then-stepped-ne0-clause-goes_on : goal.returns-then-stepped-ne0-clause-goes_on
returns-then-stepped-ne0-clause-goes_on g c =
    let q = c.serve_quiet-stepped in let gave = g.I.Source.gave in let wrote = g.O.Sink.wrote in let n = number_of c.args.pass.now.seat in
    goes_again gave wrote n n _ _ _ (seen_by c.args.pass.now.seat) (seen_by q.new.pass.seat) (seen_by q.new.pass.seat) refl
    (done_steps gave wrote c.args.pass.now.seat q.new.pass.seat 1 _ _ q.result q.ensures.book q.ensures.delivers)
    (done_read gave wrote n (seen_by q.new.pass.seat) _ _ _ _ c.now.result q.ensures.book c.now.ensures.gave)

pub returns-else-stepped-ne0-clause-goes_on : goal.returns-else-stepped-ne0-clause-goes_on
returns-else-stepped-ne0-clause-goes_on g c = let q = c.serve_quiet-stepped in
    done_steps g.I.Source.gave g.O.Sink.wrote c.args.pass.now.seat q.new.pass.seat 1 _ _ q.result q.ensures.book q.ensures.delivers

pub returns-in-Full-clause-goes_on : goal.returns-in-Full-clause-goes_on
returns-in-Full-clause-goes_on g c = let q = c.serve_quiet-stepped in
    done_steps g.I.Source.gave g.O.Sink.wrote c.args.pass.now.seat q.new.pass.seat 1 _ _ q.result q.ensures.book q.ensures.delivers
