use Rattle.api_messages.proofs.wire.WireIn.has_head.Goals as goal

pub returns-clause-none : goal.returns-clause-none
returns-clause-none c = rw (← c.rest.ensures) c.has_head.ensures.none
