use Rattle.std.proofs.Common.{◌≡◌, List, [], ◌∷◌, ◌++◌, subst, ap, arith, inr, map, refl, ◌∙◌}
use Rattle.turn_book.specs.declared.view.View.{View}
use Rattle.shared_door.specs.Shown.{shown_by}
use Rattle.router_history.specs.Book.{turn_of}
use Rattle.router_history.specs.Visit.{IsVisit}
use Rattle.session_workers.specs.Jobs.{did_by}
use Rattle.bus_server.specs.Serve.{around_door, links_of, clocks_of}
use Rattle.duty_journal.specs.Home.{disk_in}
use Rattle.router_history.specs.declared.book.Book.{Book}
use Rattle.router_history.specs.declared.history.Turn.{Turn as CodeTurn}
use Rattle.router_history.specs.History as history
use Rattle.router_history.specs.Home.{IsHome}
use Rattle.bus_server.specs.Seated.{LeavesHome}
use Rattle.bus_server.proofs.SeatedLemmas.{home_leaves, opener}
use Rattle.bus_server.proofs.ServeLemmas.{counted_host, no_owns, no_room, serves}
use Rattle.bus_server.proofs.serve.serve_book.Goals as goal

pub returns-then-is_err-clause-serve : goal.returns-then-is_err-clause-serve
returns-then-is_err-clause-serve g c = λ start first. inr (
  no_room c.args.port c.args.workers _ _ refl,
  home_leaves g.J.Disk.calls g.J.Disk.faults (start ∷ []) c.args.book.home _
      (subst (λ (ts : List history.Turn). IsHome g.J.Disk.calls g.J.Disk.faults ts c.args.book.home) first c.requires.book.home) c.into_disk.ensures,
)

pub at_port-requires-clause-opener : goal.at_port-requires-clause-opener
at_port-requires-clause-opener g c κs lives =
    opener g.J.Disk.calls g.J.Disk.faults c.args.book c.in-Ok.pass.seat c.in-Ok.ensures.ok.3 c.in-Ok.ensures.ok.2 c.requires.book c.requires.unmade

pub returns-in-Ok-take_owns-clause-serve : goal.returns-in-Ok-take_owns-clause-serve
returns-in-Ok-take_owns-clause-serve g c = λ start first.
    let h = g.H.Host in let k = g.C.Clocks in
    let t = c.take_owns.ensures in
    let old = c.args.host.now in let mid = c.take_owns.new.host in let new = c.at_port.new.host in
    let owns = c.take_owns.new.owns in
    serves (shown_by g.H.Door.Door.faults g.H.Door.Door.ahead g.H.Door.Door.given g.H.Door.Door.ended g.H.Door.Door.gave g.H.Door.Door.took_back g.H.Door.Door.closed) (IsVisit g.H.Door.In.Source.gave g.H.Door.Out.Sink.wrote g.H.Door.In.Source.faults g.H.Door.Out.Sink.faults)
    (did_by g.H.Door.In.Source.gave g.H.Door.Out.Sink.wrote g.C.Lent.Clock.gave g.H.Link.Link.exchanges g.H.Link.Link.faults) start
    (λ turns. LeavesHome g.J.Disk.calls g.J.Disk.faults turns c.at_port.result.disk) c.args.port c.args.workers c.args.connections owns.items
    (around_door (g.K.Sink.wrote c.args.output.now) (h.doors_given old) (h.doors_back old) (h.links_given old) (h.links_back old)
    (k.clocks_given c.args.clock.now) (k.clocks_back c.args.clock.now) (h.door_faults old) (h.link_faults old))
    (around_door (g.K.Sink.wrote c.args.output.now) (h.doors_given mid) (h.doors_back mid) (h.links_given mid) (h.links_back mid)
    (k.clocks_given c.take_owns.new.clock) (k.clocks_back c.take_owns.new.clock) (h.door_faults mid) (h.link_faults mid))
    (around_door (g.K.Sink.wrote c.at_port.new.output) (h.doors_given new) (h.doors_back new) (h.links_given new) (h.links_back new)
    (k.clocks_given c.at_port.new.clock) (k.clocks_back c.at_port.new.clock) (h.door_faults new) (h.link_faults new)) c.at_port.result.status refl t.doors.same_given t.doors.same_back t.given t.back t.clocks t.clocks_back t.same.0
    c.in-Ok-take_owns.ensures.counts (omega (arith, owns.ok, c.in-Ok-take_owns.ensures.all, c.from-count.ensures)) (c.at_port.ensures.served start (ap (λ (v : View CodeTurn). map turn_of v.seen) c.in-Ok.ensures.ok.3 ∙ first))

pub returns-in-Ok-listening_line-clause-serve : goal.returns-in-Ok-listening_line-clause-serve
returns-in-Ok-listening_line-clause-serve g c = λ start first.
    let h = g.H.Host in let k = g.C.Clocks in
    let t = c.take_owns.ensures in let l = c.give_owns.ensures in
    let old = c.args.host.now in let new = c.give_owns.new.host in
    let owns = c.take_owns.new.owns in
    let fault = c.in-Err-take_owns.fault in
    let (rose, same) = counted_host (Unit {0}) fault (h.link_faults old) (h.link_faults c.take_owns.new.host) (h.link_faults new) c.in-Err-take_owns.ensures.counts
    l.faults.same_link in
    inr (
      no_owns c.args.port c.args.workers fault owns.items
          (around_door (g.K.Sink.wrote c.args.output.now) (h.doors_given old) (h.doors_back old) (h.links_given old) (h.links_back old)
          (k.clocks_given c.args.clock.now) (k.clocks_back c.args.clock.now) (h.door_faults old) (h.link_faults old))
          (around_door (g.K.Sink.wrote c.args.output.now) (h.doors_given new) (h.doors_back new) (h.links_given new) (h.links_back new)
          (k.clocks_given c.give_owns.new.clock) (k.clocks_back c.give_owns.new.clock) (h.door_faults new) (h.link_faults new)) c.host_status.result c.host_status.ensures refl
          (l.doors.same_given ∙ t.doors.same_given)
          (l.doors.same_back ∙ t.doors.same_back)
          (l.given ∙ t.given)
          (l.back ∙ ap (λ ls. ls ++ links_of owns.items) t.back)
          (l.clocks ∙ t.clocks)
          (l.clocks_back ∙ ap (λ cs. cs ++ clocks_of owns.items) t.clocks_back)
          (omega (arith, owns.ok, t.few, c.from-count.ensures))
          (l.faults.same_door ∙ t.same.0) rose same,
      c.end_book.ensures start (opener g.J.Disk.calls g.J.Disk.faults c.args.book c.in-Ok.pass.seat c.in-Ok.ensures.ok.3 c.in-Ok.ensures.ok.2 c.requires.book c.requires.unmade) (ap (λ (v : View CodeTurn). map turn_of v.seen) c.in-Ok.ensures.ok.3 ∙ first),
    )

pub returns-in-Ok-clause-serve : goal.returns-in-Ok-clause-serve
returns-in-Ok-clause-serve g c = λ start first. inr (
  no_room c.args.port c.args.workers _ _ refl,
  c.end_book-in-Err-listening_line.ensures start (opener g.J.Disk.calls g.J.Disk.faults c.args.book c.in-Ok.pass.seat c.in-Ok.ensures.ok.3 c.in-Ok.ensures.ok.2 c.requires.book c.requires.unmade)
      (ap (λ (v : View CodeTurn). map turn_of v.seen) c.in-Ok.ensures.ok.3 ∙ first),
)

pub returns-clause-serve : goal.returns-clause-serve
returns-clause-serve g c = λ start first. inr (
  no_room c.args.port c.args.workers _ _ refl,
  home_leaves g.J.Disk.calls g.J.Disk.faults (start ∷ []) c.args.book.home _
      (subst (λ (ts : List history.Turn). IsHome g.J.Disk.calls g.J.Disk.faults ts c.args.book.home) first c.requires.book.home)
      (c.into_disk-in-Err.ensures ∙ ap (λ (b : Book _). disk_in b.home) c.in-Err.ensures.err),
)
