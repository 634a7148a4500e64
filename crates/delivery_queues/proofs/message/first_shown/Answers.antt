use Rattle.std.proofs.Common.{ap, map, ◌∙◌}
use Rattle.std.proofs.lemmas.Iterator.{YieldsList-from_take}
use Rattle.std.proofs.lemmas.Iterator.Consumers.{YieldsList-from_rest, YieldsList-end}
use Rattle.delivery_queues.specs.DeadLetter.{shown}
use Rattle.delivery_queues.proofs.message.first_shown.Goals as goal

pub returns : goal.returns
returns c =
    let t = YieldsList-end (YieldsList-from_take {v = λ b. b.now} {s = c.into_iter-message-iterator.result} c.args.limit
    (YieldsList-from_rest c.args.messages.now (cc)) (cc)) c.loop-message.yielded _ c.loop-message.yielded_by _ _ c.in-None.is
    c.next.ensures.steps in
    c.loop-message.invariant ∙ ap (map shown) t.0
