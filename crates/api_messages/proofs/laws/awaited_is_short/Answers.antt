use Rattle.api_messages.proofs.MessageLemmas as lemmas
use Rattle.api_messages.proofs.laws.awaited_is_short.Goals as goal

pub returns : goal.returns
returns c = lemmas.awaited_is_short
