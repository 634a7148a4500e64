use Rattle.api_messages.proofs.MessageLemmas as lemmas
use Rattle.api_messages.proofs.laws.one_reading.Goals as goal

pub returns : goal.returns
returns c = record {
  one_message = lemmas.one_message;
  not_refused = lemmas.not_refused;
  not_awaited = lemmas.not_awaited;
  stays = lemmas.refused_stays;
  one_stream = lemmas.one_stream;
  undecided = lemmas.undecided;
}
