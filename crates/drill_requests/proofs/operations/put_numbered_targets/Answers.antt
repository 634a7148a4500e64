use Rattle.std.proofs.Common.{rules, ◌∙◌, ap, sym, codes, decimal}
use Rattle.std.proofs.lemmas.Result.{IfOk-weaker}
use Rattle.drill_requests.specs.Messages as messages
use Rattle.drill_requests.proofs.MessageLemmas.{targets_body, digits_plain, one_number}
use Rattle.drill_requests.proofs.operations.put_numbered_targets.Goals as goal

pub returns : goal.returns
unfolding messages.put_targets
returns c =
    let n = c.args.number in
    let written = one_number (codes "{\"Rule\":\"k") (decimal n) (codes "\",\"Targets\":[{\"Id\":\"t\",\"Arn\":\"arn:aws:sqs:us-east-1:111122223333:d\"}]}")
    c.new-body.result.items c.push_number.new.bytes.items c.extend_from_slice.new.self.items (search rules) (search rules) (search rules) in
    let body = c.as_slice.ensures.value ∙ (written ∙ sym (targets_body (decimal n) (digits_plain n c.ranges.number.fits))) in
    IfOk-weaker c.message.result _ _ (λ bytes is. is ∙ ap (messages.message (codes "AWSEvents.PutTargets")) body) c.message.ensures
