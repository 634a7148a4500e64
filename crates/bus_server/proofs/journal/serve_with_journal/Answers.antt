use Rattle.std.proofs.Common.{◌≡◌, inl, inr, sym, subst}
use Rattle.shared_door.specs.Shown.{shown_by}
use Rattle.router_history.specs.Visit.{IsVisit}
use Rattle.session_workers.specs.Jobs.{did_by}
use Rattle.bus_server.specs.Serve.{AroundDoor, around_door}
use Rattle.bus_server.specs.ServeJournal.{HasServing}
use Rattle.bus_server.proofs.JournalLemmas.{lends, opening_apart, unlent}
use Rattle.bus_server.proofs.ServeJournalLemmas.{same_around}
use Rattle.bus_server.proofs.journal.serve_with_journal.Goals as goal

pub returns-in-Ok-clause-journaled : goal.returns-in-Ok-clause-journaled
returns-in-Ok-clause-journaled g c =
    let h = g.H.Host in let k = g.C.Clocks in
    let d = c.disk.ensures in let o = c.serve_on_disk-disk.ensures in let b = c.back_disk.ensures in
    let old = c.args.host.now in let mid = c.disk.new.self in let on = c.serve_on_disk-disk.new.host in let new = c.back_disk.new.self in
    let status = c.serve_on_disk-disk.result.1 in
    let at_mid : AroundDoor g.row.H-Door.Denot g.row.H-Link.Denot g.row.C-Lent.Denot = around_door (g.K.Sink.wrote c.args.output.now) (h.doors_given mid) (h.doors_back mid) (h.links_given mid) (h.links_back mid) (k.clocks_given c.args.clock.now) (k.clocks_back c.args.clock.now)
    (h.door_faults mid) (h.link_faults mid) in
    let at_new : AroundDoor g.row.H-Door.Denot g.row.H-Link.Denot g.row.C-Lent.Denot = around_door (g.K.Sink.wrote c.serve_on_disk-disk.new.output) (h.doors_given new) (h.doors_back new) (h.links_given new) (h.links_back new) (k.clocks_given c.serve_on_disk-disk.new.clock) (k.clocks_back c.serve_on_disk-disk.new.clock)
    (h.door_faults new) (h.link_faults new) in
    let Has : AroundDoor g.row.H-Door.Denot g.row.H-Link.Denot g.row.C-Lent.Denot → AroundDoor g.row.H-Door.Denot g.row.H-Link.Denot g.row.C-Lent.Denot → Type 0 = λ x y. HasServing g.H.Disk.Disk.calls g.H.Disk.Disk.faults
    (shown_by g.H.Door.Door.faults g.H.Door.Door.ahead g.H.Door.Door.given g.H.Door.Door.ended g.H.Door.Door.gave g.H.Door.Door.took_back g.H.Door.Door.closed)
    (IsVisit g.H.Door.In.Source.gave g.H.Door.Out.Sink.wrote g.H.Door.In.Source.faults g.H.Door.Out.Sink.faults)
    (did_by g.H.Door.In.Source.gave g.H.Door.Out.Sink.wrote g.C.Lent.Clock.gave g.H.Link.Link.exchanges g.H.Link.Link.faults) c.args.port c.args.workers c.args.connections x y status c.in-Ok.disk c.serve_on_disk-disk.result.0 in
    inl (lends g.H.Disk.Disk.calls c.args.path.now _
    (h.disks_given old) (h.disks_given mid) (h.disks_given on) (h.disks_given new) (h.disks_back old) (h.disks_back mid) (h.disks_back on) (h.disks_back new)
    (h.disk_faults old) (h.disk_faults mid) (h.disk_faults on) (h.disk_faults new) c.in-Ok.disk c.serve_on_disk-disk.result.0
    c.in-Ok.ensures.opened c.in-Ok.ensures.given o.disks.1.same_given b.given d.back o.disks.1.same_back b.back c.in-Ok.ensures.count.same o.disks.0 b.faults.same_disk
    (subst (λ (x : AroundDoor g.row.H-Door.Denot g.row.H-Link.Denot g.row.C-Lent.Denot). Has x at_new)
    (same_around (g.K.Sink.wrote c.args.output.now) (h.doors_given mid) (h.doors_given old) (h.doors_back mid) (h.doors_back old) (h.links_given mid) (h.links_given old)
    (h.links_back mid) (h.links_back old) (k.clocks_given c.args.clock.now) (k.clocks_back c.args.clock.now) (h.door_faults mid) (h.door_faults old) (h.link_faults mid) (h.link_faults old)
    d.doors.same_given d.doors.same_back d.links.same_given d.links.same_back d.door d.link)
    (subst (λ (y : AroundDoor g.row.H-Door.Denot g.row.H-Link.Denot g.row.C-Lent.Denot). Has at_mid y)
    (same_around (g.K.Sink.wrote c.serve_on_disk-disk.new.output) (h.doors_given on) (h.doors_given new) (h.doors_back on) (h.doors_back new) (h.links_given on) (h.links_given new)
    (h.links_back on) (h.links_back new) (k.clocks_given c.serve_on_disk-disk.new.clock) (k.clocks_back c.serve_on_disk-disk.new.clock) (h.door_faults on) (h.door_faults new)
    (h.link_faults on) (h.link_faults new) (sym b.doors.same_given) (sym b.doors.same_back) (sym b.links.same_given) (sym b.links.same_back) (sym b.faults.same_door) (sym b.faults.same_link))
    o.has)))

pub returns-in-Err-clause-journaled : goal.returns-in-Err-clause-journaled
returns-in-Err-clause-journaled g c =
    let h = g.H.Host in let k = g.C.Clocks in
    let d = c.disk.ensures in
    let old = c.args.host.now in let new = c.disk.new.self in
    inr (unlent _ (h.disks_given old) (h.disks_given new) (h.disks_back old) (h.disks_back new) (h.disk_faults old) (h.disk_faults new) c.in-Err.fault c.opening_status.result
    c.opening_status.ensures c.in-Err.ensures.given d.back c.in-Err.ensures.count
    (same_around (g.K.Sink.wrote c.args.output.now) (h.doors_given new) (h.doors_given old) (h.doors_back new) (h.doors_back old) (h.links_given new) (h.links_given old)
    (h.links_back new) (h.links_back old) (k.clocks_given c.args.clock.now) (k.clocks_back c.args.clock.now) (h.door_faults new) (h.door_faults old) (h.link_faults new) (h.link_faults old)
    d.doors.same_given d.doors.same_back d.links.same_given d.links.same_back d.door d.link))

pub returns-in-Err-clause-write_fault : goal.returns-in-Err-clause-write_fault
returns-in-Err-clause-write_fault g c = λ e. absurd ((opening_apart c.in-Err.fault c.opening_status.result c.opening_status.ensures).write e)
