use Rattle.std.proofs.Common.{sym, subst}
use Rattle.pattern_read.specs.Text.{IsPatternText}
use Rattle.api_wire.proofs.call.pattern.pattern_of.Goals as goal

pub unreachable-requires : goal.unreachable-requires
unreachable-requires c =
    let refused = c.in-Err-Refused.ensures.only c.requires.0 (subst (λ t. IsPatternText t c.requires.0) (sym c.in_ok-text.ensures) c.requires.1) in
    cc
