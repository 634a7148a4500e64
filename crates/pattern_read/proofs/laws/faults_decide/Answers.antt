use Rattle.pattern_read.proofs.PassLemmas.{pattern_passes}
use Rattle.pattern_read.proofs.MadeLemmas.{pattern_made}
use Rattle.pattern_read.proofs.OneLemmas.{one_pattern}
use Rattle.pattern_read.proofs.RefusalLemmas.{never_refused}
use Rattle.pattern_read.proofs.laws.faults_decide.Goals as goal

pub returns-clause-pattern : goal.returns-clause-pattern
returns-clause-pattern c root t = (λ h. pattern_passes root t h.0 h.1, λ h. pattern_made root t h)

pub returns-clause-one : goal.returns-clause-one
returns-clause-one c text p q a b = one_pattern a b

pub returns-clause-never_refused : goal.returns-clause-never_refused
returns-clause-never_refused c text p why keys is refused = never_refused text p why keys is refused
