use Rattle.std.proofs.Common.{◌≡◌, ℕ, ◌∙◌, subst}
use Rattle.turn_book.specs.Rule.{IsUnmade}
use Rattle.turn_book.specs.Passes.{view}
use Rattle.router_core.specs.Tables.{Tables}
use Rattle.router_history.specs.Book.{recorded_in}
use Rattle.router_sessions.proofs.DeskLemmas.{maker}
use Rattle.tables_summary.specs.Summary.{IsSummed}
use Rattle.drill_run.proofs.DrillLemmas.{drilled_by}
use Rattle.drill_run.proofs.run.drilled.Goals as goal

pub returns-then-is_done-clause-drill : goal.returns-then-is_done-clause-drill
returns-then-is_done-clause-drill g c =
    let e = c.serve_all-is_done.ensures in
    let book = c.close-book.result.machine in
    let made : (view c.serve_all-is_done.new.pass.seat).made ≡ 1 = e.pass.0.3 ∙ c.requires.opener.1 in
    let done = e.drilled c.if-is_done.true in
    drilled_by c.args.seed c.args.events (view c.serve_all-is_done.new.pass.seat) book (g.K.Sink.wrote c.args.output.now) (g.K.Sink.wrote c.sum_up-status.new.output) c.sum_up-status.result (e.pass.0.1 ∙ c.requires.opener.0) c.close-book.ensures.history
    (subst (λ (k : ℕ). IsUnmade maker k (recorded_in book.history)) made c.close-book.ensures.unmade) c.close-book.ensures.sound.kept done.0 e.rests done.1
    (subst (λ (t : Tables). IsSummed t (g.K.Sink.wrote c.args.output.now) (g.K.Sink.wrote c.sum_up-status.new.output) c.sum_up-status.result) c.tables.ensures c.sum_up-status.ensures.summed)
