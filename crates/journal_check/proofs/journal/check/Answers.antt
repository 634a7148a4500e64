use Rattle.std.proofs.Common.{◌∷◌, [], ◌++◌, ap, inl, inr, refl, ◌∙◌}
use Rattle.journal_check.specs.Check.{around_disk}
use Rattle.journal_check.proofs.CheckLemmas.{no_write_fault_opening, unopened}
use Rattle.journal_check.proofs.journal.check.Goals as goal

pub returns-in-Ok-clause-check : goal.returns-in-Ok-clause-check
returns-in-Ok-clause-check g c =
    let disk = c.read-status.new.disk in
    let d = c.disk.ensures in let b = c.back_disk.ensures in
    inl (record {
      lent = c.in-Ok.disk;
      returned = disk;
      opened = c.in-Ok.ensures.opened;
      disks = b.given ∙ c.in-Ok.ensures.given;
      disks_back = b.back ∙ ap (λ ds. ds ++ disk ∷ []) d.back;
      faultless = b.faults.same_disk ∙ c.in-Ok.ensures.count.same;
      read = c.read-status.ensures.read;
    })

pub returns-in-Err-clause-check : goal.returns-in-Err-clause-check
returns-in-Err-clause-check g c =
    let h = g.H.Host in
    let old = c.args.host.now in let new = c.disk.new.self in
    let wrote = g.K.Sink.wrote c.args.output.now in
    inr (unopened g.row.H-Disk.Denot c.in-Err.fault (around_disk wrote (h.disks_given old) (h.disks_back old) (h.disk_faults old))
    (around_disk wrote (h.disks_given new) (h.disks_back new) (h.disk_faults new)) c.opening_status.result c.opening_status.ensures refl c.in-Err.ensures.given
    c.disk.ensures.back c.in-Err.ensures.count)

pub returns-in-Err-clause-write_fault : goal.returns-in-Err-clause-write_fault
returns-in-Err-clause-write_fault g c = λ e. absurd (no_write_fault_opening c.in-Err.fault c.opening_status.result c.opening_status.ensures e)
