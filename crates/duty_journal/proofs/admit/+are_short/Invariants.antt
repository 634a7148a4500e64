use Rattle.std.proofs.Common.{length}
use Rattle.duty_journal.proofs.admit.+are_short.Given as goal

-- the duties that are left
abbrev pub decreases-are_short : goal.decreases-are_short
decreases-are_short l = length l.duties.now
