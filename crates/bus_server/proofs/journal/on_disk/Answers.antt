use Rattle.std.proofs.Common.{◌∙◌, ap, refl}
use Rattle.router_history.specs.declared.book.Book.{Book}
use Rattle.router_history.specs.Book.{turns_of}
use Rattle.bus_server.proofs.JournalLemmas.{counts_apart, fault_apart, has_journal, matches_apart, not_opened, some_back, some_disk}
use Rattle.bus_server.proofs.RunLemmas.{none_begun}
use Rattle.bus_server.proofs.journal.on_disk.Goals as goal

pub disk_in-requires : goal.disk_in-requires
disk_in-requires g c =
    some_disk g.D.Disk.calls g.D.Disk.faults g.H.Link.Link.exchanges g.H.Link.Link.faults _ c.args.now c.in-Ok.ensures.opened.journal c.seated-ended.result.disk _ _ c.seated-ended.result.status
    (c.seated-ended.ensures.sits _ (ap (λ (b : Book _). turns_of b.machine) c.book.ensures ∙ c.in-Ok.ensures.opened.turns))

pub returns-in-Ok-clause-has : goal.returns-in-Ok-clause-has
returns-in-Ok-clause-has g c =
    has_journal g.D.Disk.calls g.D.Disk.faults g.H.Link.Link.exchanges g.H.Link.Link.faults _ c.args.now c.args.disk c.disk_in.result c.seated-ended.result.disk _ _ c.seated-ended.result.status
    c.in-Ok.opened.book c.in-Ok.ensures.opened c.disk_in.ensures
    (c.seated-ended.ensures.sits _ (ap (λ (b : Book _). turns_of b.machine) c.book.ensures ∙ c.in-Ok.ensures.opened.turns))

pub disk_in-requires-in-Err : goal.disk_in-requires-in-Err
disk_in-requires-in-Err g c =
    some_back g.D.Disk.calls g.D.Disk.faults c.args.disk c.in-Err.disk c.in-Err.fault c.in-Err.ensures.fault

pub returns-in-Err-clause-has : goal.returns-in-Err-clause-has
returns-in-Err-clause-has g c =
    let status = c.fault_status.result in
    not_opened g.D.Disk.calls g.D.Disk.faults g.H.Link.Link.exchanges g.H.Link.Link.faults _ c.args.now c.args.disk c.disk_in-in-Err.result c.in-Err.disk c.in-Err.fault _ _ status
    c.in-Err.ensures.fault c.disk_in-in-Err.ensures c.fault_status.ensures (none_begun _ _ _ _ _ _ _ refl refl)
    (counts_apart status _ _ (fault_apart c.in-Err.fault status c.fault_status.ensures))

pub returns-in-Err-clause-host : goal.returns-in-Err-clause-host
returns-in-Err-clause-host g c =
    matches_apart g.H.Host.door_faults g.H.Host.link_faults c.fault_status.result c.args.host.now c.args.host.now
    (fault_apart c.in-Err.fault c.fault_status.result c.fault_status.ensures) refl refl
