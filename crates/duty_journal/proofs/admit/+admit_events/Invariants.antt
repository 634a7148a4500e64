use Rattle.std.proofs.Common.{length}
use Rattle.duty_journal.proofs.admit.+admit_events.Given as goal

-- the operations that are left
abbrev pub decreases-admit_events : goal.decreases-admit_events
decreases-admit_events l = length l.entries.now
