use Rattle.std.proofs.Common.{rules, ◌∙◌, ap, sym, codes, decimal}
use Rattle.std.proofs.lemmas.Result.{IfOk-weaker}
use Rattle.drill_requests.specs.Messages as messages
use Rattle.drill_requests.proofs.MessageLemmas.{rule_body, digits_plain, two_numbers}
use Rattle.drill_requests.proofs.operations.put_numbered_rule.Goals as goal

pub returns : goal.returns
unfolding messages.put_rule
returns c =
    let n = c.args.number in
    let written = two_numbers (codes "{\"Name\":\"k") (decimal n) (codes "\",\"EventPattern\":\"{\\\"detail\\\":{\\\"k\\\":[\\\"k") (decimal n)
    (codes "\\\"]}}\"}") c.new-body.result.items c.push_number.new.bytes.items c.push_number-2.new.bytes.items c.extend_from_slice.new.self.items
    (search rules) (search rules) (search rules) (search rules) in
    let body = c.as_slice.ensures.value ∙ (written ∙ sym (rule_body (decimal n) (digits_plain n c.ranges.number.fits))) in
    IfOk-weaker c.message.result _ _ (λ bytes is. is ∙ ap (messages.message (codes "AWSEvents.PutRule")) body) c.message.ensures
