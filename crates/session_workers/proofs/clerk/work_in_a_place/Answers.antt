use Rattle.std.proofs.Common.{ℕ, sym, subst}
use Rattle.router_history.specs.Book.{Rests}
use Rattle.router_sessions.specs.Desk.{seen_by, turns_seen, number_of}
use Rattle.router_sessions.proofs.OwesLemmas.{owes_rests, rests_owes}
use Rattle.session_workers.proofs.JobsLemmas.{done_looked, goes_again, goes_beside, stays_beside}
use Rattle.session_workers.proofs.clerk.work_in_a_place.Goals as goal

pub deliver_for_a_while-requires-clause-rests : goal.deliver_for_a_while-requires-clause-rests
deliver_for_a_while-requires-clause-rests g c κs lives =
    subst (λ (n : ℕ). Rests n (turns_seen c.look.new.pass.seat)) (sym c.look.ensures.pass.0.1)
    (c.look.ensures.rests (owes_rests (number_of c.args.pass.now.seat) (seen_by c.args.pass.now.seat) c.requires.rests))

pub step_for_a_while-requires-clause-rests : goal.step_for_a_while-requires-clause-rests
step_for_a_while-requires-clause-rests g c κs lives =
    subst (λ (n : ℕ). Rests n (turns_seen c.deliver_for_a_while.new.pass.seat)) (sym c.deliver_for_a_while.ensures.pass.0.1) c.deliver_for_a_while.ensures.rests

pub returns-then-enter-clause-rests : goal.returns-then-enter-clause-rests
returns-then-enter-clause-rests g c =
    rests_owes (number_of c.step_for_a_while.new.pass.seat) (seen_by c.step_for_a_while.new.pass.seat)
    (subst (λ (n : ℕ). Rests n (turns_seen c.step_for_a_while.new.pass.seat)) (sym c.step_for_a_while.ensures.pass.0.1) c.step_for_a_while.ensures.rests)

pub returns-then-enter-clause-goes_on : goal.returns-then-enter-clause-goes_on
returns-then-enter-clause-goes_on g c = let gave = g.I.Source.gave in let wrote = g.O.Sink.wrote in let n = number_of c.args.pass.now.seat in
    let looked = c.look.new.pass.seat in let delivered = c.deliver_for_a_while.new.pass.seat in
    goes_beside gave wrote n _ _ _ _ _ _ _ _ _ _ (seen_by c.args.pass.now.seat) (seen_by c.step_for_a_while.new.pass.seat)
    c.enter.ensures.same.0 c.enter.ensures.same.1 c.leave.ensures.same.0 c.leave.ensures.same.1
    (goes_again gave wrote n (number_of looked) _ _ _ _ _ _ c.look.ensures.pass.0.1
    (done_looked gave wrote c.args.pass.now.seat looked _ _ c.look.ensures.book c.look.ensures.looked)
    (goes_again gave wrote (number_of looked) (number_of delivered) _ _ _ _ _ _ c.deliver_for_a_while.ensures.pass.0.1
    c.deliver_for_a_while.ensures.goes_on (c.step_for_a_while.ensures.goes_on _ _)))

pub returns-else-enter-clause-goes_on : goal.returns-else-enter-clause-goes_on
returns-else-enter-clause-goes_on g c =
    stays_beside g.I.Source.gave g.O.Sink.wrote (number_of c.args.pass.now.seat) _ _ _ _ _ (seen_by c.args.pass.now.seat) c.enter.ensures.same.0 c.enter.ensures.same.1
