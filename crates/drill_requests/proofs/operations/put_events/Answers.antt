use Rattle.std.proofs.Common.{rules, ◌∙◌, ap, sym, codes, decimal}
use Rattle.std.proofs.lemmas.Result.{IfOk-weaker}
use Rattle.drill_requests.specs.Messages as messages
use Rattle.drill_requests.proofs.MessageLemmas.{event_body, digits_plain, two_numbers}
use Rattle.drill_requests.proofs.operations.put_events.Goals as goal

pub returns : goal.returns
unfolding messages.put_events
returns c =
    let a = c.args.a in
    let b = c.args.b in
    let written = two_numbers (codes "{\"Entries\":[{\"Source\":\"drill\",\"DetailType\":\"drill\",\"Detail\":\"{\\\"k\\\":\\\"k") (decimal a) (codes "\\\",\\\"b\\\":")
    (decimal b) (codes "}\"}]}") c.new-body.result.items c.push_number.new.bytes.items c.push_number-2.new.bytes.items
    c.extend_from_slice.new.self.items (search rules) (search rules) (search rules) (search rules) in
    let body = c.as_slice.ensures.value ∙ (written ∙ sym (event_body (decimal a) (decimal b) (digits_plain a c.ranges.a.fits) (digits_plain b c.ranges.b.fits))) in
    IfOk-weaker c.message.result _ _ (λ bytes is. is ∙ ap (messages.message (codes "AWSEvents.PutEvents")) body) c.message.ensures
