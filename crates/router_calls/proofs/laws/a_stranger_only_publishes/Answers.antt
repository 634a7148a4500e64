use Rattle.router_calls.proofs.AllowedLemmas as lemmas
use Rattle.router_calls.proofs.laws.a_stranger_only_publishes.Goals as goal

pub returns : goal.returns
returns c = lemmas.stranger_publishes
