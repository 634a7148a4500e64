use Rattle.api_messages.proofs.MessageLemmas as lemmas
use Rattle.api_messages.proofs.laws.one_refusal.Goals as goal

pub returns : goal.returns
returns c = lemmas.one_refusal
