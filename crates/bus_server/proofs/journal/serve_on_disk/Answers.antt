use Rattle.std.proofs.Common.{◌∙◌, ap}
use Rattle.shared_door.specs.Shown.{shown_by}
use Rattle.router_history.specs.declared.book.Book.{Book}
use Rattle.router_history.specs.Book.{turns_of}
use Rattle.router_history.specs.Visit.{IsVisit}
use Rattle.session_workers.specs.Jobs.{did_by}
use Rattle.bus_server.proofs.JournalLemmas.{fault_apart, some_back}
use Rattle.bus_server.proofs.ServeJournalLemmas.{serve_has, serve_some, serve_unopened}
use Rattle.bus_server.proofs.journal.serve_on_disk.Goals as goal

pub disk_in-requires : goal.disk_in-requires
disk_in-requires g c =
    serve_some g.J.Disk.calls g.J.Disk.faults (shown_by g.H.Door.Door.faults g.H.Door.Door.ahead g.H.Door.Door.given g.H.Door.Door.ended g.H.Door.Door.gave g.H.Door.Door.took_back g.H.Door.Door.closed)
    (IsVisit g.H.Door.In.Source.gave g.H.Door.Out.Sink.wrote g.H.Door.In.Source.faults g.H.Door.Out.Sink.faults)
    (did_by g.H.Door.In.Source.gave g.H.Door.Out.Sink.wrote g.C.Lent.Clock.gave g.H.Link.Link.exchanges g.H.Link.Link.faults) c.in-Ok.ensures.opened.journal c.serve_book-ended.result.disk c.args.port c.args.workers c.args.connections _ _
    c.serve_book-ended.result.status (c.serve_book-ended.ensures.serve _ (ap (λ (b : Book _). turns_of b.machine) c.book.ensures ∙ c.in-Ok.ensures.opened.turns))

pub returns-in-Ok-clause-has : goal.returns-in-Ok-clause-has
returns-in-Ok-clause-has g c =
    serve_has g.J.Disk.calls g.J.Disk.faults (shown_by g.H.Door.Door.faults g.H.Door.Door.ahead g.H.Door.Door.given g.H.Door.Door.ended g.H.Door.Door.gave g.H.Door.Door.took_back g.H.Door.Door.closed)
    (IsVisit g.H.Door.In.Source.gave g.H.Door.Out.Sink.wrote g.H.Door.In.Source.faults g.H.Door.Out.Sink.faults)
    (did_by g.H.Door.In.Source.gave g.H.Door.Out.Sink.wrote g.C.Lent.Clock.gave g.H.Link.Link.exchanges g.H.Link.Link.faults) c.args.disk c.disk_in.result c.serve_book-ended.result.disk c.args.port c.args.workers c.args.connections _ _
    c.serve_book-ended.result.status c.in-Ok.opened.book c.in-Ok.ensures.opened c.disk_in.ensures
    (c.serve_book-ended.ensures.serve _ (ap (λ (b : Book _). turns_of b.machine) c.book.ensures ∙ c.in-Ok.ensures.opened.turns))

pub disk_in-requires-in-Err : goal.disk_in-requires-in-Err
disk_in-requires-in-Err g c = some_back g.J.Disk.calls g.J.Disk.faults c.args.disk c.in-Err.disk c.in-Err.fault c.in-Err.ensures.fault

pub returns-in-Err-clause-has : goal.returns-in-Err-clause-has
returns-in-Err-clause-has g c =
    serve_unopened g.J.Disk.calls g.J.Disk.faults (shown_by g.H.Door.Door.faults g.H.Door.Door.ahead g.H.Door.Door.given g.H.Door.Door.ended g.H.Door.Door.gave g.H.Door.Door.took_back g.H.Door.Door.closed)
    (IsVisit g.H.Door.In.Source.gave g.H.Door.Out.Sink.wrote g.H.Door.In.Source.faults g.H.Door.Out.Sink.faults)
    (did_by g.H.Door.In.Source.gave g.H.Door.Out.Sink.wrote g.C.Lent.Clock.gave g.H.Link.Link.exchanges g.H.Link.Link.faults) c.args.disk c.disk_in-in-Err.result c.in-Err.disk c.in-Err.fault c.args.port c.args.workers c.args.connections _
    c.fault_status.result c.in-Err.ensures.fault c.disk_in-in-Err.ensures c.fault_status.ensures

pub returns-in-Err-clause-write_fault : goal.returns-in-Err-clause-write_fault
returns-in-Err-clause-write_fault g c = λ e. absurd ((fault_apart c.in-Err.fault c.fault_status.result c.fault_status.ensures).write e)
