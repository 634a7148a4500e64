use Rattle.std.proofs.Common.{◌≡◌, rules, subst, sym}
use Rattle.pattern_read.specs.Text.{IsPatternText}
use Rattle.pattern_read.proofs.pattern_text.PatternText.read.Goals as goal

pub returns-in-Err-clause-only : goal.returns-in-Err-clause-only
returns-in-Err-clause-only c = λ meaning is.
    let same : c.as_bytes.result.now ≡ c.args.text = search rules in
    c.in-Err.ensures.only meaning (subst (λ text. IsPatternText text meaning) (sym same) is)
