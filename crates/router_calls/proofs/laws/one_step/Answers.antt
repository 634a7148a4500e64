use Rattle.router_calls.proofs.StepLemmas as lemmas
use Rattle.router_calls.proofs.laws.one_step.Goals as goal

pub returns : goal.returns
returns c = lemmas.one_step
