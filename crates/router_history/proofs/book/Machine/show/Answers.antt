use Rattle.std.proofs.Common.{refl}
use Rattle.std.specs.Prelude.{None}
use Rattle.router_history.specs.declared.book.Machine.{Machine}
use Rattle.router_history.specs.declared.book.TurnReply.TheVariants.{Unrendered}
use Rattle.router_history.proofs.AnsweredLemmas.{answer_made, answered, answered_book}
use Rattle.router_history.proofs.BookLemmas.{added_of}
use Rattle.router_history.proofs.book.Machine.show.Goals as goal

pub returns-clause-kept : goal.returns-clause-kept
returns-clause-kept c =
    answered_book (None, c.args.reply)
    (answer_made c.args.seat c.args.self.now _ c.args.request.now c.of.result.value None None c.control_count.result c.set.result.now c.requires.kept c.of.ensures
    c.control_count.ensures.count c.set.ensures refl c.push.ensures.turns)
    c.requires.askable c.requires.decided c.requires.named (λ broken. refl) refl

pub returns-clause-answered : goal.returns-clause-answered
returns-clause-answered c = λ close.
    let new : Machine = record c.args.self.now { history = c.push.new.self } in
    answered close (None, c.args.reply) (Unrendered c.args.reply)
    (answer_made c.args.seat c.args.self.now new c.args.request.now c.of.result.value None None c.control_count.result c.set.result.now c.requires.kept c.of.ensures
    c.control_count.ensures.count c.set.ensures refl c.push.ensures.turns)
    c.requires.askable c.requires.decided refl (λ is. refl) (λ none. tt)

pub returns-clause-added : goal.returns-clause-added
returns-clause-added c =
    let new : Machine = record c.args.self.now { history = c.push.new.self } in
    added_of
    (answer_made c.args.seat c.args.self.now new c.args.request.now c.of.result.value None None c.control_count.result c.set.result.now c.requires.kept c.of.ensures
    c.control_count.ensures.count c.set.ensures refl c.push.ensures.turns)
