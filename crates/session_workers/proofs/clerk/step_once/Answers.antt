use Rattle.std.proofs.Common.{refl}
use Rattle.router_sessions.specs.Desk.{seen_by, number_of}
use Rattle.session_workers.proofs.JobsLemmas.{done_repeats, done_read, goes_again}
use Rattle.session_workers.proofs.clerk.step_once.Goals as goal

pub returns-then-made-ne0-clause-goes_on : goal.returns-then-made-ne0-clause-goes_on
returns-then-made-ne0-clause-goes_on g c = λ answered faults.
    let q = c.step_quiet in let gave = g.I.Source.gave in let wrote = g.O.Sink.wrote in let n = number_of c.args.pass.now.seat in
    goes_again gave wrote n n _ _ _ (seen_by c.args.pass.now.seat) (seen_by q.new.pass.seat) (seen_by q.new.pass.seat) refl
    (done_repeats gave wrote c.args.pass.now.seat q.new.pass.seat 1 _ _ answered faults q.result q.ensures.book q.ensures.repeats)
    (done_read gave wrote n (seen_by q.new.pass.seat) _ _ answered faults c.now.result q.ensures.book c.now.ensures.gave)

pub returns-else-made-ne0-clause-goes_on : goal.returns-else-made-ne0-clause-goes_on
returns-else-made-ne0-clause-goes_on g c = λ answered faults. let q = c.step_quiet in
    done_repeats g.I.Source.gave g.O.Sink.wrote c.args.pass.now.seat q.new.pass.seat 1 _ _ answered faults q.result q.ensures.book q.ensures.repeats

pub returns-in-Err-clause-goes_on : goal.returns-in-Err-clause-goes_on
returns-in-Err-clause-goes_on g c = λ answered faults. let q = c.step_quiet in
    done_repeats g.I.Source.gave g.O.Sink.wrote c.args.pass.now.seat q.new.pass.seat 1 _ _ answered faults q.result q.ensures.book q.ensures.repeats
