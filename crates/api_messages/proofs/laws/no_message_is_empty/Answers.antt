use Rattle.api_messages.proofs.MessageLemmas as lemmas
use Rattle.api_messages.proofs.laws.no_message_is_empty.Goals as goal

pub returns : goal.returns
returns c = lemmas.no_message_is_empty
