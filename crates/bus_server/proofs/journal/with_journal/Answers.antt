use Rattle.std.proofs.Common.{inl, inr}
use Rattle.bus_server.proofs.JournalLemmas.{counts_apart, has_links, lends, matches_apart, matches_around, opening_apart, unlent}
use Rattle.bus_server.proofs.RunLemmas.{none_begun}
use Rattle.bus_server.proofs.journal.with_journal.Goals as goal

pub returns-in-Ok-clause-journaled : goal.returns-in-Ok-clause-journaled
returns-in-Ok-clause-journaled g c =
    let h = g.H.Host in
    let d = c.disk.ensures in let o = c.on_disk-disk.ensures in let b = c.back_disk.ensures in
    let old = c.args.host.now in let mid = c.disk.new.self in let on = c.on_disk-disk.new.host in let new = c.back_disk.new.self in
    inl (lends g.H.Disk.Disk.calls c.args.path.now _
    (h.disks_given old) (h.disks_given mid) (h.disks_given on) (h.disks_given new) (h.disks_back old) (h.disks_back mid) (h.disks_back on) (h.disks_back new)
    (h.disk_faults old) (h.disk_faults mid) (h.disk_faults on) (h.disk_faults new) c.in-Ok.disk c.on_disk-disk.result.0
    c.in-Ok.ensures.opened c.in-Ok.ensures.given o.disks.1.same_given b.given d.back o.disks.1.same_back b.back c.in-Ok.ensures.count.same o.disks.0 b.faults.same_disk
    (has_links g.H.Disk.Disk.calls g.H.Disk.Disk.faults g.H.Link.Link.exchanges g.H.Link.Link.faults _ c.args.now c.in-Ok.disk c.on_disk-disk.result.0 _ _ _ _ _ _
    (h.links_given old) (h.links_given mid) (h.links_given on) (h.links_given new) (h.links_back old) (h.links_back mid) (h.links_back on) (h.links_back new) c.on_disk-disk.result.1
    d.links.same_given d.links.same_back b.links.same_given b.links.same_back o.has))

pub returns-in-Ok-clause-host : goal.returns-in-Ok-clause-host
returns-in-Ok-clause-host g c =
    let h = g.H.Host in
    let d = c.disk.ensures in let b = c.back_disk.ensures in
    matches_around h.door_faults h.link_faults c.on_disk-disk.result.1 c.args.host.now c.disk.new.self c.on_disk-disk.new.host c.back_disk.new.self d.door d.link c.on_disk-disk.ensures.host
    b.faults.same_door b.faults.same_link

pub returns-in-Err-clause-journaled : goal.returns-in-Err-clause-journaled
returns-in-Err-clause-journaled g c =
    let h = g.H.Host in
    let d = c.disk.ensures in
    let old = c.args.host.now in let new = c.disk.new.self in
    let status = c.opening_status.result in
    inr (unlent _ (h.disks_given old) (h.disks_given new) (h.disks_back old) (h.disks_back new) (h.disk_faults old) (h.disk_faults new) c.in-Err.fault status
    c.opening_status.ensures c.in-Err.ensures.given d.back c.in-Err.ensures.count
    (none_begun _ _ _ _ _ _ _ d.links.same_given d.links.same_back, counts_apart status _ _ (opening_apart c.in-Err.fault status c.opening_status.ensures)))

pub returns-in-Err-clause-host : goal.returns-in-Err-clause-host
returns-in-Err-clause-host g c =
    let h = g.H.Host in
    let d = c.disk.ensures in
    matches_apart h.door_faults h.link_faults c.opening_status.result c.args.host.now c.disk.new.self (opening_apart c.in-Err.fault c.opening_status.result c.opening_status.ensures)
    d.door d.link
