use Rattle.std.proofs.Common.{◌∙◌, ap, sym}
use Rattle.turn_book.specs.Passes.{view}
use Rattle.router_disk.specs.Memory.{Store}
use Rattle.router_sessions.specs.Desk.{turns_seen}
use Rattle.drill_run.specs.Drill.{has_status_200}
use Rattle.drill_run.proofs.DrillLemmas.{replied}
use Rattle.drill_run.proofs.run.reply_by.Goals as goal

pub returns-then-has_status_200-clause-reply : goal.returns-then-has_status_200-clause-reply
returns-then-has_status_200-clause-reply g c =
    let e = c.serve_session-end.ensures in
    let new = c.serve_session-end.new in
    replied (view c.args.pass.now.seat).number g.N.Given.bytes new.output.bytes c.new-output.result.bytes c.new-input.result new.input c.new-clock.result new.clock _ _
    (turns_seen c.args.pass.now.seat) (turns_seen new.pass.seat) c.serve_session-end.result c.requires.number c.new-input.ensures
    (ap (λ (s : Store). s.bytes) c.new-output.ensures) c.new-clock.ensures (c.is_closed.ensures c.if-is_closed.true) e.session
    (c.is_read.ensures c.if-is_read.true) c.always.ensures
    (sym (ap has_status_200 c.bytes.ensures) ∙ sym c.has_status_200.ensures ∙ c.if-has_status_200.true)
