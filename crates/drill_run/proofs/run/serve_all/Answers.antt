use Rattle.router_sessions.specs.Desk.{turns_seen}
use Rattle.drill_run.specs.Drill.{loaded}
use Rattle.drill_run.proofs.run.serve_all.Goals as goal

pub returns-then-load-clause-drilled : goal.returns-then-load-clause-drilled
returns-then-load-clause-drilled g c = λ yes.
    let (book, drilled) = c.deliver.ensures.drilled yes in
    (book, drilled c.args.seed c.args.events (loaded (turns_seen c.load.new.pass.seat) (c.load.ensures.loaded c.if-load.true)))
