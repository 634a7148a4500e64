use Rattle.std.proofs.Common.{subst}
use Rattle.json_text.specs.View.{tree_of}
use Rattle.pattern_meaning.specs.Pattern.{Pattern}
use Rattle.pattern_meaning.specs.PatternView.{pattern_of}
use Rattle.pattern_meaning.specs.Holds.{PatternHolds}
use Rattle.pattern_read.proofs.OneLemmas.{one_pattern}
use Rattle.router_requests.proofs.matching.pattern_matches.Goals as goal

pub returns : goal.returns
returns c = (
  (λ yes. record { pattern = pattern_of c.pattern.result.now; read = c.pattern.ensures.text; holds = c.plain_holds.ensures.0 yes }),
  (λ m.
      let same = one_pattern m.read c.pattern.ensures.text in
      c.plain_holds.ensures.1 (subst (λ (p : Pattern). PatternHolds p (tree_of c.args.event.now)) same m.holds)),
)
