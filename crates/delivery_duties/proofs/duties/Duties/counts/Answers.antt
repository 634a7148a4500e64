use Rattle.std.proofs.Common.{sym, subst, ◌≤◌}
use Rattle.delivery_duties.specs.Duties.{Duties, HasOneFate}
use Rattle.delivery_duties.specs.Fate.{AreNumbered}
use Rattle.delivery_duties.proofs.StepLemmas.{one_fate}
use Rattle.delivery_duties.proofs.FateLemmas.{sound_numbered}
use Rattle.delivery_duties.proofs.duties.Duties.counts.Goals as goal

pub returns-clause-each : goal.returns-clause-each
returns-clause-each c = λ n l m.
    subst (HasOneFate n) c.self.view_is (one_fate c.self.invariant n l (subst (λ (s : Duties). n ≤ s.created) (sym c.self.view_is) m))

pub returns-clause-numbered : goal.returns-clause-numbered
returns-clause-numbered c = subst AreNumbered c.self.view_is (sound_numbered c.self.invariant)
