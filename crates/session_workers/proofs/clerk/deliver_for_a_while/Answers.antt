use Rattle.std.proofs.Common.{ℕ, refl, sym, subst}
use Rattle.router_history.specs.Book.{Rests}
use Rattle.router_sessions.specs.Desk.{turns_seen, number_of, seen_by}
use Rattle.router_sessions.proofs.DeskLemmas.{same_again}
use Rattle.session_workers.proofs.JobsLemmas.{done_read, goes_again}
use Rattle.session_workers.proofs.clerk.deliver_for_a_while.Goals as goal

pub loop-init : goal.loop-init
loop-init g c = record { same = (refl, refl, refl, refl); free = c.requires.free; book = c.requires.book; rests = c.requires.rests; goes_on = λ lent sessions done. done }

pub loop-preserved : goal.loop-preserved
loop-preserved g c = record {
  same = same_again c.args.pass.now.seat c.loop.pass.seat c.deliver_once.new.pass.seat c.loop.invariant.same c.deliver_once.ensures.pass.0;
  free = c.deliver_once.ensures.pass.1;
  book = c.deliver_once.ensures.book;
  rests = subst (λ (n : ℕ). Rests n (turns_seen c.deliver_once.new.pass.seat)) c.loop.invariant.same.1 c.deliver_once.ensures.rests;
  goes_on = goes_again g.I.Source.gave g.O.Sink.wrote (number_of c.args.pass.now.seat) (number_of c.loop.pass.seat) _ _ _ _ _ _ c.loop.invariant.same.1
      c.loop.invariant.goes_on c.deliver_once.ensures.goes_on;
}

pub deliver_once-requires-clause-rests : goal.deliver_once-requires-clause-rests
deliver_once-requires-clause-rests g c κs lives =
    subst (λ (n : ℕ). Rests n (turns_seen c.loop.pass.seat)) (sym c.loop.invariant.same.1) c.loop.invariant.rests

pub returns-clause-goes_on : goal.returns-clause-goes_on
returns-clause-goes_on g c = let gave = g.I.Source.gave in let wrote = g.O.Sink.wrote in let n = number_of c.args.pass.now.seat in
    goes_again gave wrote n n _ _ _ _ _ _ refl
    (done_read gave wrote n (seen_by c.args.pass.now.seat) _ _ _ _ c.now-begun.result c.requires.book c.now-begun.ensures.gave) c.loop.invariant.goes_on

pub returns-then-not-deliver_once-clause-rests : goal.returns-then-not-deliver_once-clause-rests
returns-then-not-deliver_once-clause-rests g c =
    subst (λ (n : ℕ). Rests n (turns_seen c.deliver_once.new.pass.seat)) c.loop.invariant.same.1 c.deliver_once.ensures.rests

pub returns-then-not-deliver_once-clause-goes_on : goal.returns-then-not-deliver_once-clause-goes_on
returns-then-not-deliver_once-clause-goes_on g c = let gave = g.I.Source.gave in let wrote = g.O.Sink.wrote in let n = number_of c.args.pass.now.seat in
    goes_again gave wrote n n _ _ _ _ _ _ refl
    (done_read gave wrote n (seen_by c.args.pass.now.seat) _ _ _ _ c.now-begun.result c.requires.book c.now-begun.ensures.gave)
    (goes_again gave wrote n (number_of c.loop.pass.seat) _ _ _ _ _ _ c.loop.invariant.same.1 c.loop.invariant.goes_on c.deliver_once.ensures.goes_on)
