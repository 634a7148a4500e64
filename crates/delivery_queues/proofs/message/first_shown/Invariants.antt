use Rattle.std.proofs.Common.{◌≡◌, map}
use Rattle.delivery_queues.specs.DeadLetter.{shown}
use Rattle.delivery_queues.proofs.message.first_shown.Given as goal

abbrev pub invariant-loop-message : goal.invariant-loop-message
invariant-loop-message l = l.shown.items ≡ map shown (map (λ b. b.now) l.yielded)
