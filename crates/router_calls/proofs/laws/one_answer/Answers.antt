use Rattle.router_calls.proofs.OneLemmas as lemmas
use Rattle.router_calls.proofs.laws.one_answer.Goals as goal

pub returns : goal.returns
returns c = lemmas.one_answer
