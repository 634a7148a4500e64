use Rattle.std.proofs.Common.{◌-◌}
use Rattle.duty_journal.specs.Recovery.{IsReading}
use Rattle.duty_journal.proofs.recover.redo_all.Given as goal

-- the records before the scan's place were read
abbrev pub invariant-records : goal.invariant-records
invariant-records g l =
    IsReading (g.D.Disk.calls l.fn.disk) (g.D.Disk.calls l.disk) (g.D.Disk.faults l.fn.disk) (g.D.Disk.faults l.disk) l.fn.scan l.scan l.fn.tables l.tables

-- the bytes after it are left
abbrev pub decreases-records : goal.decreases-records
decreases-records g l = l.scan.size - l.scan.place
