use Rattle.std.proofs.Common.{subst}
use Rattle.bus_policy.specs.Stored.{IsStored}
use Rattle.bus_policy.proofs.LawLemmas.{text_reads_back}
use Rattle.bus_policy.proofs.policy.Policy.text.Goals as goal

pub returns-clause-reads_back : goal.returns-clause-reads_back
returns-clause-reads_back c = λ short. text_reads_back c.args.self.now (subst IsStored c.self.view_is c.self.invariant.is_stored) short
