use Rattle.shared_door.specs.Shown.{shown_by}
use Rattle.router_history.specs.Visit.{IsVisit}
use Rattle.program_tests.proofs.PrintedLemmas.{printed_by}
use Rattle.program_tests.proofs.clauses.serve_to_the_end.Goals as goal

pub returns-clause-printed : goal.returns-clause-printed
returns-clause-printed g c = λ closed done.
    let d = g.H.Door.Door in
    printed_by (shown_by d.faults d.ahead d.given d.ended d.gave d.took_back d.closed)
    (IsVisit g.H.Door.In.Source.gave g.H.Door.Out.Sink.wrote g.H.Door.In.Source.faults g.H.Door.Out.Sink.faults) g.H.Door.In.Source.gave g.H.Door.Out.Sink.wrote
    g.C.Lent.Clock.gave g.H.Link.Link.exchanges g.H.Link.Link.faults c.args.port _ c.args.connections _ _ c.run.result
    (c.run.ensures.serve c.args.port c.args.workers c.args.connections c.requires.serve).2 closed done
