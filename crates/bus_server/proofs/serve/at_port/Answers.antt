use Rattle.std.proofs.Common.{[], ◌∷◌, ◌++◌, ap, inr, refl, ◌∙◌}
use Rattle.shared_door.specs.Shown.{shown_by}
use Rattle.router_history.specs.Visit.{IsVisit}
use Rattle.session_workers.specs.Jobs.{did_by}
use Rattle.bus_server.specs.Serve.{around_door, links_of}
use Rattle.bus_server.proofs.ServeLemmas.{counted, no_door, no_write_fault, serves_by}
use Rattle.bus_server.specs.Seated.{LeavesHome}
use Rattle.bus_server.proofs.serve.at_port.Goals as goal

pub returns-in-Ok-clause-served : goal.returns-in-Ok-clause-served
returns-in-Ok-clause-served g c = λ start first.
    let h = g.H.Host in let k = g.C.Clocks in
    let left = c.announce-left.result in
    let d = c.door.ensures in let b = c.back_door.ensures in let l = c.give_owns.ensures in
    let old = c.args.host.now in let new = c.give_owns.new.host in
    serves_by (shown_by g.H.Door.Door.faults g.H.Door.Door.ahead g.H.Door.Door.given g.H.Door.Door.ended g.H.Door.Door.gave g.H.Door.Door.took_back g.H.Door.Door.closed) (IsVisit g.H.Door.In.Source.gave g.H.Door.Out.Sink.wrote g.H.Door.In.Source.faults g.H.Door.Out.Sink.faults)
    (did_by g.H.Door.In.Source.gave g.H.Door.Out.Sink.wrote g.C.Lent.Clock.gave g.H.Link.Link.exchanges g.H.Link.Link.faults) start
    (λ turns. LeavesHome g.J.Disk.calls g.J.Disk.faults turns left.disk) c.args.port c.args.connections c.in-Ok.door left.door c.args.owns.items left.owns.items
    (around_door (g.K.Sink.wrote c.args.output.now) (h.doors_given old) (h.doors_back old) (h.links_given old) (h.links_back old)
    (k.clocks_given c.args.clock.now) (k.clocks_back c.args.clock.now) (h.door_faults old) (h.link_faults old))
    (around_door (g.K.Sink.wrote c.announce-left.new.output) (h.doors_given new) (h.doors_back new) (h.links_given new) (h.links_back new)
    (k.clocks_given c.give_owns.new.clock) (k.clocks_back c.give_owns.new.clock) (h.door_faults new) (h.link_faults new)) left.status
    (l.doors.same_given ∙ b.given ∙ c.in-Ok.ensures.given)
    (l.doors.same_back ∙ b.back ∙ ap (λ ds. ds ++ left.door ∷ []) d.back)
    (l.given ∙ b.links.same_given ∙ d.links.same_given)
    l.clocks
    (l.back ∙ ap (λ ls. ls ++ links_of left.owns.items) (b.links.same_back ∙ d.links.same_back))
    l.clocks_back
    (l.faults.same_door ∙ b.faults.same_door ∙ c.in-Ok.ensures.count.same)
    (l.faults.same_link ∙ b.faults.same_link ∙ d.link)
    (c.announce-left.ensures.announced start first)

pub returns-in-Err-clause-served : goal.returns-in-Err-clause-served
returns-in-Err-clause-served g c = λ start first.
    let h = g.H.Host in let k = g.C.Clocks in
    let d = c.door.ensures in let l = c.give_owns-in-Err.ensures in
    let old = c.args.host.now in let new = c.give_owns-in-Err.new.host in
    let (rose, same) = counted g.row.H-Door.Denot c.in-Err.fault (h.door_faults old) (h.door_faults c.door.new.self) (h.door_faults new) c.in-Err.ensures.count l.faults.same_door in
    inr (
      no_door c.args.port c.in-Err.fault c.args.owns.items
          (around_door (g.K.Sink.wrote c.args.output.now) (h.doors_given old) (h.doors_back old) (h.links_given old) (h.links_back old)
          (k.clocks_given c.args.clock.now) (k.clocks_back c.args.clock.now) (h.door_faults old) (h.link_faults old))
          (around_door (g.K.Sink.wrote c.args.output.now) (h.doors_given new) (h.doors_back new) (h.links_given new) (h.links_back new)
          (k.clocks_given c.give_owns-in-Err.new.clock) (k.clocks_back c.give_owns-in-Err.new.clock) (h.door_faults new) (h.link_faults new)) c.host_status.result c.host_status.ensures refl
          (l.doors.same_given ∙ c.in-Err.ensures.given)
          (l.doors.same_back ∙ d.back)
          (l.given ∙ d.links.same_given)
          l.clocks
          (l.back ∙ ap (λ ls. ls ++ links_of c.args.owns.items) d.links.same_back)
          l.clocks_back
          rose same
          (l.faults.same_link ∙ d.link),
      c.end_book.ensures start c.requires.opener first,
    )

pub returns-in-Err-clause-write_fault : goal.returns-in-Err-clause-write_fault
returns-in-Err-clause-write_fault g c = λ e. absurd (no_write_fault c.in-Err.fault c.host_status.result c.host_status.ensures e)
