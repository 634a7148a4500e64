use Rattle.std.proofs.Common.{inr, refl}
use Rattle.shared_door.specs.Shown.{shown_by}
use Rattle.router_history.specs.Visit.{IsVisit}
use Rattle.session_workers.specs.Jobs.{did_by}
use Rattle.bus_server.proofs.ServeJournalLemmas.{serve_whole}
use Rattle.bus_server.proofs.ServeLemmas.{no_room}
use Rattle.bus_server.proofs.serve.serve_in_memory.Goals as goal

pub returns-in-Ok-clause-serve : goal.returns-in-Ok-clause-serve
returns-in-Ok-clause-serve g c =
    serve_whole _ _ (shown_by g.H.Door.Door.faults g.H.Door.Door.ahead g.H.Door.Door.given g.H.Door.Door.ended g.H.Door.Door.gave g.H.Door.Door.took_back g.H.Door.Door.closed)
    (IsVisit g.H.Door.In.Source.gave g.H.Door.Out.Sink.wrote g.H.Door.In.Source.faults g.H.Door.Out.Sink.faults)
    (did_by g.H.Door.In.Source.gave g.H.Door.Out.Sink.wrote g.C.Lent.Clock.gave g.H.Link.Link.exchanges g.H.Link.Link.faults) c.serve_book-ended.result.disk c.args.port c.args.workers c.args.connections _ _ c.serve_book-ended.result.status
    (c.serve_book-ended.ensures.serve _ c.in-Ok.ensures.first)

pub returns-in-Err-clause-serve : goal.returns-in-Err-clause-serve
returns-in-Err-clause-serve g c = inr (no_room c.args.port c.args.workers _ _ refl, refl)
