use Rattle.leaf_match.proofs.Progress.{Progress, effort}
use Rattle.leaf_match.proofs.matching.fits.Given as goal

abbrev pub invariant-steps : goal.invariant-steps
invariant-steps g l = Progress (g.P.Pattern.pieces l.pattern) l.text l.place l.back

abbrev pub decreases-steps : goal.decreases-steps
decreases-steps g l = effort (g.P.Pattern.pieces l.pattern) l.text l.place l.back
