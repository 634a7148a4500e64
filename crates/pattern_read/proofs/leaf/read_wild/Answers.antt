use Rattle.std.proofs.Common.{sym, subst}
use Rattle.leaf_match.specs.Wild.{IsWildcard}
use Rattle.pattern_read.specs.Check.{here, wildcard_text}
use Rattle.pattern_read.specs.Reading.{IsReported}
use Rattle.pattern_read.proofs.CheckLemmas.{reported_here}
use Rattle.pattern_read.proofs.leaf.read_wild.Goals as goal

pub returns-in-Err-BadWild : goal.returns-in-Err-BadWild
returns-in-Err-BadWild c =
    let bad : ¬ (IsWildcard c.args.text.now) = c.in-Err-BadWild.ensures.bad.0 (cc) in
    subst (IsReported (here (wildcard_text c.args.text.now))) (sym c.of.ensures) (reported_here (wildcard_text c.args.text.now) bad)
