use Rattle.event_shape.proofs.OnceLemmas.{event_once, id_once}
use Rattle.event_shape.proofs.laws.one_event.Goals as goal

pub returns-clause-text : goal.returns-clause-text
returns-clause-text c = event_once

pub returns-clause-id : goal.returns-clause-id
returns-clause-id c = id_once
