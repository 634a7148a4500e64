use Rattle.std.proofs.Common.{◌≡◌, ◌∙◌, ℕ, ◌+◌, Bool, List, [], ◌∷◌, ap, map, length, subst, arith}
use Rattle.std.proofs.lemmas.List.Elements.{All-map}
use Rattle.turn_book.specs.Passes.{known_by}
use Rattle.turn_book.specs.Rule.{IsUnmade}
use Rattle.router_core.specs.Tables.{Tables}
use Rattle.shared_door.specs.Shown.{shown_by}
use Rattle.door_workers.specs.Serving.{AreDone}
use Rattle.door_workers.proofs.ServingLemmas.{many_images}
use Rattle.router_history.specs.Book.{recorded_in, turns_of}
use Rattle.router_sessions.specs.Desk.{seen_by}
use Rattle.router_history.specs.Visit.{IsVisit, visit_lasts, OwesNothing}
use Rattle.session_workers.specs.Jobs.{maker, did_by, outside_of, done_later}
use Rattle.bus_server.specs.Serve.{EndsServing}
use Rattle.router_history.specs.History.{state_of, turns_by}
use Rattle.router_history.specs.History as history
use Rattle.bus_server.specs.Seated.{LeavesHome}
use Rattle.bus_server.proofs.SeatedLemmas.{first_home, home_broken, home_leaves, still_broken}
use Rattle.bus_server.proofs.CrewLemmas.{Learned, begins_with, caller_none, opens}
use Rattle.bus_server.proofs.serve.open.Goals as goal

pub returns-clause-opened : goal.returns-clause-opened
returns-clause-opened g c = λ start first.
    let o = c.requires.opener in
    let served = c.serve_door-serving in
    let left = served.result in
    let closed = c.close-book in
    let turns = recorded_in closed.result.machine.history in
    let passes = map (λ p. known_by p.seat) left.passes.items in
    let many : length passes ≡ length left.passes.items = many_images (λ p. known_by p.seat) left.passes.items in
    let made : served.new.pass.seat.me.0.made ≡ 1 + length passes = omega (arith, served.ensures.made, o.made, many, left.passes.ok) in
    let old = g.K.Sink.wrote c.args.output.now in
    let new = g.K.Sink.wrote c.end_status-status.new.output in
    let sound = closed.ensures.sound in
    let mark = home_broken g.J.Disk.calls g.J.Disk.faults (turns_of closed.result.machine) closed.result.home sound.kept.book sound.home in
    let one : turns_by 0 (start ∷ []) ≡ [] = subst (λ (ts : List history.Turn). turns_by 0 ts ≡ []) first o.unmade in
    opens (shown_by g.D.Door.faults g.D.Door.ahead g.D.Door.given g.D.Door.ended g.D.Door.gave g.D.Door.took_back g.D.Door.closed) (IsVisit g.D.In.Source.gave g.D.Out.Sink.wrote g.D.In.Source.faults g.D.Out.Sink.faults)
    (did_by g.D.In.Source.gave g.D.Out.Sink.wrote g.C.Clock.gave g.L.Link.exchanges g.L.Link.faults) start
    (λ turns. LeavesHome g.J.Disk.calls g.J.Disk.faults turns c.into_disk.result)
    (visit_lasts g.D.In.Source.gave g.D.Out.Sink.wrote g.D.In.Source.faults g.D.Out.Sink.faults)
    (λ n lent now. done_later g.D.In.Source.gave g.D.Out.Sink.wrote n (outside_of g.C.Clock.gave g.L.Link.exchanges g.L.Link.faults lent)
    (outside_of g.C.Clock.gave g.L.Link.exchanges g.L.Link.faults now)) c.args.connections
    (record { door = c.args.door; owns = c.args.owns.items; written = old }) (record { door = left.door; owns = left.owns.items; written = new }) left.end
    passes closed.result.machine c.end_status-status.result
    (λ h. let (has, done) = served.ensures.served h in record {
      seen = seen_by served.new.pass.seat;
      served = has;
      done = subst (λ (k : ℕ). AreDone (did_by g.D.In.Source.gave g.D.Out.Sink.wrote g.C.Clock.gave g.L.Link.exchanges g.L.Link.faults) has.acts maker k c.args.owns.items left.owns.items passes) o.made done;
      longer = closed.ensures.history.0;
      begins = begins_with start c.args.pass.seat served.new.pass.seat turns first served.ensures.more.0 closed.ensures.history.0;
      caller = caller_none start c.args.pass.seat served.new.pass.seat turns o.number served.ensures.pass.1 first one served.ensures.more closed.ensures.history;
      learned = All-map (Learned turns) (λ p. known_by p.seat) left.passes.items closed.ensures.others;
      owes = All-map (λ p. OwesNothing p.0 p.1) (λ p. known_by p.seat) left.passes.items served.ensures.rests;
      unmade = subst (λ (k : ℕ). IsUnmade maker k turns) made closed.ensures.unmade;
    })
    (λ e. ((served.ensures.no_memory e).0, (served.ensures.no_memory e).1)) served.ensures.owns sound.kept
    (home_leaves g.J.Disk.calls g.J.Disk.faults (turns_of closed.result.machine) closed.result.home _ sound.home c.into_disk.ensures)
    (λ e. first_home g.J.Disk.calls g.J.Disk.faults closed.result c.args.pass.seat served.new.pass.seat start _ o (let same = (served.ensures.no_memory e).3 in λ i. (same i).seat) first
    closed.ensures.history closed.ensures.unmade sound c.into_disk.ensures)
    (λ h. subst (λ (t : Tables). EndsServing (state_of (turns_of closed.result.machine)).broken left.end t old new c.end_status-status.result) c.tables.ensures
    (subst (λ (b : Bool). EndsServing b left.end c.tables.result.now old new c.end_status-status.result) (c.is_broken.ensures ∙ mark) (c.end_status-status.ensures.ends h)))
    c.end_status-status.ensures.no_memory

pub end_status-status-requires-clause-stopped : goal.end_status-status-requires-clause-stopped
end_status-status-requires-clause-stopped g c κs lives = λ e.
    let served = c.serve_door-serving in
    let closed = c.close-book in
    let sound = closed.ensures.sound in
    c.is_broken.ensures ∙ home_broken g.J.Disk.calls g.J.Disk.faults (turns_of closed.result.machine) closed.result.home sound.kept.book sound.home
    ∙ still_broken (seen_by served.new.pass.seat) (recorded_in closed.result.machine.history) closed.ensures.history.0 (served.ensures.book (λ n. cc (e, n))) sound.kept.book
    (served.ensures.stopped e)
