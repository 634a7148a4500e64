use Rattle.std.proofs.Common.{sym, subst}
use Rattle.pattern_read.specs.Text.{IsPatternText}
use Rattle.entry_bytes.proofs.change.read_pattern.Goals as goal

pub returns : goal.returns
returns c = λ h.
    let refused = c.in-Err-Refused.ensures.only h.0 (subst (λ t. IsPatternText t h.0) (sym c.in_ok-text.ensures) h.1) in
    cc
