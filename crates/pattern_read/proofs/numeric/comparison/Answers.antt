use Rattle.std.proofs.lemmas.Option.{none-some}
use Rattle.pattern_read.proofs.numeric.comparison.Goals as goal

pub returns-in-None-millionths : goal.returns-in-None-millionths
returns-in-None-millionths c = λ x h. none-some x.bound ((c.in-None-millionths.ensures x.bound).1 h.1)
