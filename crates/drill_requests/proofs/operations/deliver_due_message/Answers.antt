use Rattle.drill_requests.specs.Messages as messages
use Rattle.drill_requests.proofs.operations.deliver_due_message.Goals as goal

pub returns : goal.returns
unfolding messages.deliver_due
returns c = c.message.ensures
