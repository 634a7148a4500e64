use Rattle.drill_requests.specs.Messages as messages
use Rattle.drill_requests.proofs.operations.create_queue.Goals as goal

pub returns : goal.returns
unfolding messages.create_queue
returns c = c.message.ensures
