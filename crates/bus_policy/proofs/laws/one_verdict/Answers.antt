use Rattle.bus_policy.specs.Parts.{statements_of}
use Rattle.bus_policy.proofs.LawLemmas as laws
use Rattle.bus_policy.proofs.laws.one_verdict.Goals as goal

pub returns : goal.returns
returns c = record { stored = laws.verdict_stored; once = λ policy. laws.verdict_once (statements_of policy) }
