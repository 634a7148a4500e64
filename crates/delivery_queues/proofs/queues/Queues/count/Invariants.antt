use Rattle.std.proofs.Common.{◌≡◌, ◌≤◌, take, length}
use Rattle.std.specs.List.{sum_by}
use Rattle.delivery_queues.specs.Queues.{Queue}
use Rattle.delivery_queues.proofs.queues.Queues.count.Given as goal

-- the messages of the queues so far, no more than were sent to them
abbrev pub invariant-loop-queue : goal.invariant-loop-queue
invariant-loop-queue l = (l.count ≡ sum_by (λ (m : Queue). length m.messages) (take l.queue-index l.queue-items))
    × (l.count ≤ sum_by (λ (m : Queue). m.sent) (take l.queue-index l.queue-items))
