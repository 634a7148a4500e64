use Rattle.router_calls.proofs.JsonLemmas as lemmas
use Rattle.router_calls.proofs.laws.a_target_gets_one_json_text.Goals as goal

pub returns-clause-owed : goal.returns-clause-owed
returns-clause-owed c = lemmas.delivered_json

pub returns-clause-from : goal.returns-clause-from
returns-clause-from c = lemmas.delivered_scenes

pub returns-clause-filled : goal.returns-clause-filled
returns-clause-filled c = lemmas.target_text_json
