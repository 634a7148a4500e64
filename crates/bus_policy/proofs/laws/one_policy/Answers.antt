use Rattle.bus_policy.proofs.ReadLemmas as read
use Rattle.bus_policy.proofs.laws.one_policy.Goals as goal

pub returns : goal.returns
returns c = read.one_policy
