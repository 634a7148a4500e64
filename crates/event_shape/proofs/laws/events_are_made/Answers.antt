use Rattle.event_shape.proofs.MadeLemmas.{event_is_made, made_is_event}
use Rattle.event_shape.proofs.laws.events_are_made.Goals as goal

pub returns-clause-made : goal.returns-clause-made
returns-clause-made c = event_is_made

pub returns-clause-event : goal.returns-clause-event
returns-clause-event c = made_is_event
