use Rattle.std.proofs.Common.{◌≤◌, arith}
use Rattle.std.proofs.lemmas.Result.{IfOk-weaker}
use Rattle.drill_requests.proofs.PlaceLemmas.{queue_at, rule_at, targets_at}
use Rattle.drill_requests.proofs.requests.set_up_message.Goals as goal

pub returns-then-place-eq0 : goal.returns-then-place-eq0
returns-then-place-eq0 c = IfOk-weaker c.create_queue.result _ _ (λ bytes is. queue_at c.args.place bytes.items c.if-place-eq0.true is) c.create_queue.ensures

pub returns-then-place-le-RULES : goal.returns-then-place-le-RULES
returns-then-place-le-RULES c =
    let low : 1 ≤ c.args.place = omega arith in
    IfOk-weaker c.put_rule.result _ _ (λ bytes at. rule_at c.args.place bytes.items low at) c.put_rule.ensures

pub returns-else-place-le-RULES : goal.returns-else-place-le-RULES
returns-else-place-le-RULES c =
    let high : 12 ≤ c.args.place = omega arith in
    IfOk-weaker c.put_targets.result _ _ (λ bytes at. targets_at c.args.place bytes.items high at) c.put_targets.ensures
