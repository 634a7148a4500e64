use Rattle.std.proofs.Common.{◌≡◌, ℕ, [], ◌∷◌, Bool, Some, sym, refl, ap, subst, ◌∙◌, List}
use Rattle.turn_book.specs.Rule.{IsUnmade}
use Rattle.turn_book.specs.Passes.{view}
use Rattle.duty_journal.specs.Home.{is_broken_home}
use Rattle.router_history.specs.History.{Turn, state_of}
use Rattle.router_history.specs.Book.{IsBook, Rests, recorded_in}
use Rattle.router_history.specs.Home.{IsHome}
use Rattle.router_sessions.specs.Desk.{turns_seen, seen_by}
use Rattle.router_history.specs.Acts.{World, world}
use Rattle.router_history.specs.Session.{IsSession}
use Rattle.drill_run.specs.OnePass.{only_seat}
use Rattle.router_sessions.proofs.DeskLemmas.{maker}
use Rattle.drill_run.proofs.OnePassLemmas.{only_pass}
use Rattle.bus_server.specs.Run.{FaultsMatch, status_of}
use Rattle.bus_server.specs.Journal.{status_after}
use Rattle.bus_server.proofs.RunLemmas.{runs_once, end_faults}
use Rattle.bus_server.proofs.SeatedLemmas.{ended_home, home_broken, home_leaves, no_door_after}
use Rattle.bus_server.proofs.once.over.Goals as goal

pub serve_session-end-requires-clause-rests : goal.serve_session-end-requires-clause-rests
serve_session-end-requires-clause-rests g c κs lives =
    subst (λ (n : ℕ). Rests n (turns_seen c.args.pass.seat)) (sym c.requires.opener.number) c.requires.opener.rests

pub returns-clause-runs : goal.returns-clause-runs
returns-clause-runs g c = λ start opened.
    let e = c.serve_session-end.ensures in
    let end = c.serve_session-end.result in
    let new = c.serve_session-end.new.pass.seat in
    let o = c.requires.opener in
    let closed = c.close-book in
    let home = closed.result.home in
    let begin : List Turn → World = λ ts. world ts (g.S.Source.gave c.args.input.now) (g.K.Sink.wrote c.args.output.now) (g.C.Clock.gave c.args.clock.now)
    (g.L.Link.exchanges c.args.link.now) (g.L.Link.faults c.args.link.now) in
    let ended : World = world (turns_seen new) (g.S.Source.gave c.serve_session-end.new.input) (g.K.Sink.wrote c.serve_session-end.new.output)
    (g.C.Clock.gave c.serve_session-end.new.clock) (g.L.Link.exchanges c.serve_session-end.new.link) (g.L.Link.faults c.serve_session-end.new.link) in
    let session : IsSession only_seat (begin (start ∷ [])) ended end =
    subst (λ (ts : List Turn). IsSession only_seat (begin ts) ended end) opened
    (subst (λ (n : ℕ). IsSession (record { pass = n; connection = Some 0 }) (begin (turns_seen c.args.pass.seat)) ended end) o.number e.session) in
    let rests : Rests 0 (turns_seen new) = subst (λ (n : ℕ). Rests n (turns_seen new)) o.number e.rests in
    let made : (view new).made ≡ 1 = e.pass.0.3 ∙ o.made in
    let unmade : IsUnmade maker 1 (recorded_in closed.result.machine.history) =
    subst (λ (k : ℕ). IsUnmade maker k (recorded_in closed.result.machine.history)) made closed.ensures.unmade in
    let held : IsHome g.D.Disk.calls g.D.Disk.faults (turns_seen new) home =
    ended_home g.D.Disk.calls g.D.Disk.faults closed.result new (e.pass.0.1 ∙ o.number) closed.ensures.history unmade closed.ensures.sound e.book in
    let mark : is_broken_home home ≡ (state_of (turns_seen new)).broken = home_broken g.D.Disk.calls g.D.Disk.faults (turns_seen new) home e.book held in
    let counted : FaultsMatch (status_of end) (g.S.Source.faults c.args.input.now) (g.S.Source.faults c.serve_session-end.new.input)
    (g.K.Sink.faults c.args.output.now) (g.K.Sink.faults c.serve_session-end.new.output) =
    end_faults end (status_of end) _ _ _ _ refl e.read_fault e.input_faultless e.write_fault e.output_faultless in (
      turns_seen new,
      runs_once start _ (begin (start ∷ [])) ended end refl (subst IsBook opened o.book) session e.book rests
          (only_pass (seen_by new) (recorded_in closed.result.machine.history) closed.ensures.history.0 unmade)
          (c.end_status-status.ensures ∙ ap (λ (b : Bool). status_after b end) (c.is_broken.ensures ∙ mark), counted),
      home_leaves g.D.Disk.calls g.D.Disk.faults (turns_seen new) home _ held c.into_disk.ensures,
    )

pub returns-clause-no_door_fault : goal.returns-clause-no_door_fault
returns-clause-no_door_fault g c = (no_door_after c.is_broken.result c.serve_session-end.result c.end_status-status.result c.end_status-status.ensures).0
