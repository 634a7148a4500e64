use Rattle.std.proofs.Common.{[]}
use Rattle.pattern_meaning.proofs.AlternativesLemmas.{alternatives_decide, counted}
use Rattle.pattern_meaning.proofs.holds.alternatives_decide.Goals as goal

pub returns-clause-holds : goal.returns-clause-holds
returns-clause-holds c p event = (
  λ h. (h.0, h.1, (alternatives_decide p event h.0).0 h.2),
  λ h. (h.0, h.1, (alternatives_decide p event h.0).1 h.2),
)

pub returns-clause-count : goal.returns-clause-count
returns-clause-count c p = counted p []
