use Rattle.std.proofs.Common.{◌∙◌, ap}
use Rattle.std.proofs.lemmas.Result.{IfOk-weaker}
use Rattle.json_text.specs.Compact.{compact_text}
use Rattle.event_shape.specs.Event.{event_tree}
use Rattle.event_shape.proofs.event.Event.text.Goals as goal

pub returns-clause-own : goal.returns-clause-own
returns-clause-own c = λ none.
    IfOk-weaker c.text_of_bytes.result _ _ (λ t is. record {
      written = is ∙ c.in_ok-written.ensures.bytes ∙ ap (λ r. compact_text (event_tree c.args.self.now r)) none;
      is_event = c.written.ensures.event;
    }) c.text_of_bytes.ensures
