use Rattle.router_calls.proofs.FormLemmas as lemmas
use Rattle.router_calls.proofs.laws.only_its_request.Goals as goal

pub returns-clause-changes : goal.returns-clause-changes
returns-clause-changes c = lemmas.its_change

pub returns-clause-replays : goal.returns-clause-replays
returns-clause-replays c = lemmas.its_replay
