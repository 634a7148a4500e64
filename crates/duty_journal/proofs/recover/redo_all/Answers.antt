use Rattle.duty_journal.proofs.RecoveryLemmas.{all_read, all_stopped, reads_on}
use Rattle.duty_journal.proofs.recover.redo_all.Goals as goal

pub records-preserved : goal.records-preserved
records-preserved g c =
    reads_on _ _ _ _ _ _ _ _ _ _ _ _ c.records.invariant c.in-Went.ensures.looks c.in-Went.ensures.count.same c.in-Went.ensures.step

pub returns-in-Closed-clause-read : goal.returns-in-Closed-clause-read
returns-in-Closed-clause-read g c = all_read _ _ _ _ _ _ _ _ _ _ _ c.records.invariant c.in-Closed.ensures.step

pub returns-in-Damaged-clause-read : goal.returns-in-Damaged-clause-read
returns-in-Damaged-clause-read g c = all_stopped _ _ _ _ _ _ _ _ _ _ _ c.records.invariant c.in-Damaged.ensures.step
