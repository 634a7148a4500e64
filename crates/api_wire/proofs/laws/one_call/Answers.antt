use Rattle.api_wire.proofs.CallLemmas as lemmas
use Rattle.api_wire.proofs.laws.one_call.Goals as goal

pub returns : goal.returns
returns c = record { request = lemmas.one_request; refusal = lemmas.one_refusal; never_both = lemmas.never_both }
