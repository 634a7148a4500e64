use Rattle.api_messages.proofs.MessageLemmas.{awaited_refused}
use Rattle.api_messages.proofs.front.has_head.Goals as goal

pub returns-in-Awaited-clause-none : goal.returns-in-Awaited-clause-none
returns-in-Awaited-clause-none c = λ _ _. c.in-Awaited.ensures.awaited

pub returns-in-Refused-clause-none : goal.returns-in-Refused-clause-none
returns-in-Refused-clause-none c = λ _. awaited_refused c.args.bytes.now _ c.in-Refused.ensures.front
