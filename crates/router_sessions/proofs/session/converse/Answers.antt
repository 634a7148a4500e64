use Rattle.std.proofs.Common.{◌≡◌, ℕ, ◌+◌, ◌<◌, arith, rules, refl, sym, subst}
use Rattle.std.proofs.lemmas.Bool.Decides.{nat_tests}
use Rattle.router_history.specs.Book.{Rests}
use Rattle.router_sessions.specs.Desk.{turns_seen}
use Rattle.router_history.specs.Session.{request_limit}
use Rattle.router_sessions.proofs.DeskLemmas.{same_again, sees_again, sees_none}
use Rattle.router_sessions.proofs.SessionLemmas.{answered_at, running_start, read_on, served_by, goes_on, long_end, closed_end, write_end, lack_end}
use Rattle.router_sessions.proofs.session.converse.Goals as goal

pub loop-message-init : goal.loop-message-init
loop-message-init g c = record {
  running = running_start _ _ _ c.new-wire.ensures.rest;
  same = (refl, refl, refl, refl);
  free = c.requires.free;
  first_book = c.requires.book;
  book = c.requires.book;
  more = sees_none c.args.pass.now.seat;
  rests = c.requires.rests;
  unrefused = search rules;
  below = omega arith;
  input_faultless = search rules;
  output_faultless = search rules;
}

pub answer_message-requires-clause-rests : goal.answer_message-requires-clause-rests
answer_message-requires-clause-rests g c κs lives =
    subst (λ (n : ℕ). Rests n (turns_seen c.loop-message.pass.seat)) (sym c.loop-message.invariant.same.1) c.loop-message.invariant.rests

pub returns-in-Lack-clause-ended : goal.returns-in-Lack-clause-ended
returns-in-Lack-clause-ended g c =
    lack_end _ _ _ _ _ _ _ _ _ _ _ c.next_message.new.wire.rest c.loop-message.served c.in-Lack.lack c.finish.result c.loop-message.invariant.first_book c.loop-message.invariant.book
    c.loop-message.invariant.running c.in-Lack.ensures.next c.finish.ensures.finish

pub returns-in-Err-clause-ended : goal.returns-in-Err-clause-ended
returns-in-Err-clause-ended g c =
    let (pieces, held, is, read, whole) = c.in-Message.ensures.next in
    write_end _ c.in-Message.message c.closes_after-close.result _ _ c.next_message.new.wire.rest c.loop-message.served c.in-Err.field-0 c.closes_after-close.ensures
    (served_by _ c.in-Message.message c.closes_after-close.result _ _ _ held c.next_message.new.wire.rest c.loop-message.served _ c.loop-message.invariant.first_book
    c.loop-message.invariant.book
    (read_on _ _ _ _ _ pieces _ _ _ _ c.loop-message.wire.rest held c.loop-message.served c.loop-message.invariant.first_book c.loop-message.invariant.book is read
    c.loop-message.invariant.running)
    whole
    (answered_at c.args.desk.connection c.args.pass.now.seat c.loop-message.pass.seat c.in-Message.message c.closes_after-close.result _ _ _ c.loop-message.invariant.same
    (c.in-Err.ensures.answered _)))

pub returns-in-Err-clause-more : goal.returns-in-Err-clause-more
returns-in-Err-clause-more g c =
    sees_again c.args.pass.now.seat c.loop-message.pass.seat c.answer_message.new.pass.seat c.loop-message.invariant.more c.in-Err.ensures.more

pub returns-in-Err-clause-rests : goal.returns-in-Err-clause-rests
returns-in-Err-clause-rests g c =
    subst (λ (n : ℕ). Rests n (turns_seen c.answer_message.new.pass.seat)) c.loop-message.invariant.same.1 c.in-Err.ensures.rests

pub returns-then-last-clause-ended : goal.returns-then-last-clause-ended
returns-then-last-clause-ended g c =
    let last : c.loop-message.served + 1 ≡ request_limit = grind (arith, nat_tests) in
    let (pieces, held, is, read, whole) = c.in-Message.ensures.next in
    long_end _ c.in-Message.message c.closes_after-close.result _ _ c.next_message.new.wire.rest c.loop-message.served c.closes_after-close.ensures last
    (served_by _ c.in-Message.message c.closes_after-close.result _ _ _ held c.next_message.new.wire.rest c.loop-message.served _ c.loop-message.invariant.first_book
    c.loop-message.invariant.book
    (read_on _ _ _ _ _ pieces _ _ _ _ c.loop-message.wire.rest held c.loop-message.served c.loop-message.invariant.first_book c.loop-message.invariant.book is read
    c.loop-message.invariant.running)
    whole
    (answered_at c.args.desk.connection c.args.pass.now.seat c.loop-message.pass.seat c.in-Message.message c.closes_after-close.result _ _ _ c.loop-message.invariant.same
    (c.in-Ok.ensures.answered _)))

pub returns-then-last-clause-more : goal.returns-then-last-clause-more
returns-then-last-clause-more g c =
    sees_again c.args.pass.now.seat c.loop-message.pass.seat c.answer_message.new.pass.seat c.loop-message.invariant.more c.in-Ok.ensures.more

pub returns-then-last-clause-rests : goal.returns-then-last-clause-rests
returns-then-last-clause-rests g c =
    subst (λ (n : ℕ). Rests n (turns_seen c.answer_message.new.pass.seat)) c.loop-message.invariant.same.1 c.in-Ok.ensures.rests

pub returns-then-message-clause-ended : goal.returns-then-message-clause-ended
returns-then-message-clause-ended g c =
    let below : c.loop-message.served + 1 < request_limit = grind (arith, nat_tests) in
    let (pieces, held, is, read, whole) = c.in-Message.ensures.next in
    closed_end _ c.in-Message.message c.closes_after-close.result _ _ c.next_message.new.wire.rest c.loop-message.served c.closes_after-close.ensures c.if-message.true below
    (served_by _ c.in-Message.message c.closes_after-close.result _ _ _ held c.next_message.new.wire.rest c.loop-message.served _ c.loop-message.invariant.first_book
    c.loop-message.invariant.book
    (read_on _ _ _ _ _ pieces _ _ _ _ c.loop-message.wire.rest held c.loop-message.served c.loop-message.invariant.first_book c.loop-message.invariant.book is read
    c.loop-message.invariant.running)
    whole
    (answered_at c.args.desk.connection c.args.pass.now.seat c.loop-message.pass.seat c.in-Message.message c.closes_after-close.result _ _ _ c.loop-message.invariant.same
    (c.in-Ok.ensures.answered _)))

pub returns-then-message-clause-more : goal.returns-then-message-clause-more
returns-then-message-clause-more g c =
    sees_again c.args.pass.now.seat c.loop-message.pass.seat c.answer_message.new.pass.seat c.loop-message.invariant.more c.in-Ok.ensures.more

pub returns-then-message-clause-rests : goal.returns-then-message-clause-rests
returns-then-message-clause-rests g c =
    subst (λ (n : ℕ). Rests n (turns_seen c.answer_message.new.pass.seat)) c.loop-message.invariant.same.1 c.in-Ok.ensures.rests

pub loop-message-preserved : goal.loop-message-preserved
loop-message-preserved g c =
    let below : c.loop-message.served + 1 < request_limit = grind (arith, nat_tests) in
    let (pieces, held, is, read, whole) = c.in-Message.ensures.next in
    record {
      running = goes_on _ c.in-Message.message c.closes_after-close.result _ _ c.next_message.new.wire.rest c.loop-message.served c.closes_after-close.ensures
          c.if-message.false below
          (served_by _ c.in-Message.message c.closes_after-close.result _ _ _ held c.next_message.new.wire.rest c.loop-message.served _ c.loop-message.invariant.first_book
          c.loop-message.invariant.book
          (read_on _ _ _ _ _ pieces _ _ _ _ c.loop-message.wire.rest held c.loop-message.served c.loop-message.invariant.first_book c.loop-message.invariant.book is read
          c.loop-message.invariant.running)
          whole
          (answered_at c.args.desk.connection c.args.pass.now.seat c.loop-message.pass.seat c.in-Message.message c.closes_after-close.result _ _ _
          c.loop-message.invariant.same (c.in-Ok.ensures.answered _)));
      same = same_again c.args.pass.now.seat c.loop-message.pass.seat c.answer_message.new.pass.seat c.loop-message.invariant.same c.in-Ok.ensures.pass.0;
      free = c.in-Ok.ensures.pass.1;
      first_book = c.loop-message.invariant.first_book;
      book = c.in-Ok.ensures.book;
      more = sees_again c.args.pass.now.seat c.loop-message.pass.seat c.answer_message.new.pass.seat c.loop-message.invariant.more c.in-Ok.ensures.more;
      rests = subst (λ (n : ℕ). Rests n (turns_seen c.answer_message.new.pass.seat)) c.loop-message.invariant.same.1 c.in-Ok.ensures.rests;
      unrefused = search rules;
      below = below;
      input_faultless = search rules;
      output_faultless = search rules;
    }
