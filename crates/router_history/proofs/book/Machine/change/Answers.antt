use Rattle.std.proofs.Common.{sym, ap, ◌∙◌}
use Rattle.std.specs.Prelude.{Some}
use Rattle.std.proofs.lemmas.Bool.{true≢false}
use Rattle.router_requests.specs.View.{batch_of}
use Rattle.router_history.specs.declared.book.Machine.{Machine}
use Rattle.router_history.specs.declared.book.TurnReply.TheVariants.{Rendered}
use Rattle.router_history.proofs.AnsweredLemmas.{answer_made, answered, answered_book}
use Rattle.router_history.proofs.BookLemmas.{added_of}
use Rattle.router_history.proofs.book.Machine.change.Goals as goal

pub returns-clause-kept : goal.returns-clause-kept
returns-clause-kept c =
    answered_book (Some c.args.ready, c.args.reply.now)
    (answer_made c.args.seat c.args.self.now _ c.args.request.now c.of.result.value (Some (batch_of c.of-2.result.value)) (Some (batch_of c.args.ready.batch))
    c.control_count.result c.set.result.now c.requires.kept c.of.ensures c.control_count.ensures.count c.set.ensures
    (ap (λ b. Some (batch_of b)) (c.of-2.ensures ∙ c.batch.ensures)) c.push.ensures.turns)
    c.requires.askable c.requires.decided c.requires.named (λ broken. absurd (true≢false (sym broken ∙ c.requires.unbroken))) c.enter-released.ensures.tables

pub returns-clause-added : goal.returns-clause-added
returns-clause-added c =
    let new : Machine = record {
      tables = c.enter-released.new.tables;
      board = c.enter-released.new.board;
      history = c.push.new.self;
      same_set = c.enter-released.ensures.board;
    } in
    added_of
    (answer_made c.args.seat c.args.self.now new c.args.request.now c.of.result.value (Some (batch_of c.of-2.result.value)) (Some (batch_of c.args.ready.batch))
    c.control_count.result c.set.result.now c.requires.kept c.of.ensures c.control_count.ensures.count c.set.ensures
    (ap (λ b. Some (batch_of b)) (c.of-2.ensures ∙ c.batch.ensures)) c.push.ensures.turns)

pub returns-clause-answered : goal.returns-clause-answered
returns-clause-answered c =
    let new : Machine = record {
      tables = c.enter-released.new.tables;
      board = c.enter-released.new.board;
      history = c.push.new.self;
      same_set = c.enter-released.ensures.board;
    } in
    answered c.args.close (Some c.args.ready, c.args.reply.now) (Rendered c.args.bytes)
    (answer_made c.args.seat c.args.self.now new c.args.request.now c.of.result.value (Some (batch_of c.of-2.result.value)) (Some (batch_of c.args.ready.batch))
    c.control_count.result c.set.result.now c.requires.kept c.of.ensures c.control_count.ensures.count c.set.ensures
    (ap (λ b. Some (batch_of b)) (c.of-2.ensures ∙ c.batch.ensures)) c.push.ensures.turns)
    c.requires.askable c.requires.decided c.requires.text (λ is. absurd is) (λ none. absurd (cc))
