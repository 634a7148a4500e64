use Rattle.router_sessions.proofs.SeatedLemmas.{step_made, step_refused}
use Rattle.router_sessions.proofs.replays.RepeaterStepBook.step.Goals as goal

pub returns-clause-sound : goal.returns-clause-sound
returns-clause-sound g c =
    let (seated, rests, calls) = c.requires.sound in
    let (seated_new, rests_new, is) = calls.steps _ _ c.args.reading c.step.result seated c.requires.moment rests c.step.ensures in (seated_new, rests_new, calls)

pub returns-clause-stepped : goal.returns-clause-stepped
returns-clause-stepped g c =
    let (seated, rests, calls) = c.requires.sound in
    step_made g.N.Naming.seat c.args.reading _ _ c.step.result
    (calls.steps _ _ c.args.reading c.step.result seated c.requires.moment rests c.step.ensures).2

pub returns-clause-refused : goal.returns-clause-refused
returns-clause-refused g c =
    let (seated, rests, calls) = c.requires.sound in
    step_refused g.N.Naming.seat c.args.reading _ _ c.step.result
    (calls.steps _ _ c.args.reading c.step.result seated c.requires.moment rests c.step.ensures).2
