use Rattle.bus_server.proofs.RunLemmas.{run_still, run_clocked}
use Rattle.bus_server.proofs.once.clocked.Goals as goal

pub returns-in-Some-clause-runs : goal.returns-in-Some-clause-runs
returns-in-Some-clause-runs g c = λ start opened.
    let (turns, readings, each, runs, left) = c.stand_still.ensures.runs start opened in
    (turns, run_still start _ c.args.now c.in-Some.moment _ _ _ _ _ _ readings _ _ _ _ turns c.in-Some.is each runs, left)

pub returns-in-None-clause-runs : goal.returns-in-None-clause-runs
returns-in-None-clause-runs g c = λ start opened.
    let (turns, runs, left) = c.over.ensures.runs start opened in
    (turns, run_clocked start _ c.args.now _ _ c.in-None.is runs, left)
