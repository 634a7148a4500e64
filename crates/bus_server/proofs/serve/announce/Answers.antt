use Rattle.std.proofs.Common.{◌≡◌, ℕ, List, ◌++◌, arith, refl, subst, ◌∙◌}
use Rattle.shared_door.specs.Shown.{shown_by}
use Rattle.router_history.specs.Visit.{IsVisit}
use Rattle.session_workers.specs.Jobs.{did_by}
use Rattle.tables_summary.specs.Summary.{WritesPart}
use Rattle.bus_server.proofs.ServeLemmas.{announced, unannounced}
use Rattle.bus_server.specs.Seated.{LeavesHome}
use Rattle.bus_server.proofs.serve.announce.Goals as goal

pub returns-in-Ok-clause-announced : goal.returns-in-Ok-clause-announced
returns-in-Ok-clause-announced g c = λ start first.
    let old = g.K.Sink.wrote c.args.output.now in
    let left = c.open.result in
    announced (shown_by g.D.Door.faults g.D.Door.ahead g.D.Door.given g.D.Door.ended g.D.Door.gave g.D.Door.took_back g.D.Door.closed) (IsVisit g.D.In.Source.gave g.D.Out.Sink.wrote g.D.In.Source.faults g.D.Out.Sink.faults)
    (did_by g.D.In.Source.gave g.D.Out.Sink.wrote g.C.Clock.gave g.L.Link.exchanges g.L.Link.faults) start
    (λ turns. LeavesHome g.J.Disk.calls g.J.Disk.faults turns left.disk) c.args.port c.args.connections (record { door = c.args.door; owns = c.args.owns.items; written = old })
    (record { door = left.door; owns = left.owns.items; written = g.K.Sink.wrote c.open.new.output }) (g.K.Sink.wrote c.write_all.new.self) left.status
    (subst (λ (bs : List ℕ). g.K.Sink.wrote c.write_all.new.self ≡ old ++ bs) (c.as_slice.ensures ∙ c.requires.listening) c.in-Ok.ensures.wrote)
    (λ count. omega (arith, count, left.owns.ok, c.args.owns.ok)) (c.open.ensures.opened start first)

pub returns-in-Err-clause-announced : goal.returns-in-Err-clause-announced
returns-in-Err-clause-announced g c = λ start first.
    let old = g.K.Sink.wrote c.args.output.now in
    unannounced (shown_by g.D.Door.faults g.D.Door.ahead g.D.Door.given g.D.Door.ended g.D.Door.gave g.D.Door.took_back g.D.Door.closed) (IsVisit g.D.In.Source.gave g.D.Out.Sink.wrote g.D.In.Source.faults g.D.Out.Sink.faults)
    (did_by g.D.In.Source.gave g.D.Out.Sink.wrote g.C.Clock.gave g.L.Link.exchanges g.L.Link.faults) start
    (λ turns. LeavesHome g.J.Disk.calls g.J.Disk.faults turns c.end_book.result) c.args.port c.args.connections (record { door = c.args.door; owns = c.args.owns.items; written = old }) (g.K.Sink.wrote c.write_all.new.self) _ refl
    (subst (WritesPart old (g.K.Sink.wrote c.write_all.new.self)) (c.as_slice.ensures ∙ c.requires.listening) c.in-Err.ensures.wrote)
    (c.end_book.ensures start c.requires.opener first)
