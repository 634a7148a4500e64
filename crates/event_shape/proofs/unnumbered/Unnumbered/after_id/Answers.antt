use Rattle.std.proofs.Common.{◌∙◌, sym}
use Rattle.std.proofs.lemmas.List.{append_cancel_left}
use Rattle.event_shape.specs.Unnumbered.{zero_front, text_after_id}
use Rattle.event_shape.proofs.UnnumberedLemmas.{text_opens, event_numbered}
use Rattle.event_shape.proofs.unnumbered.Unnumbered.after_id.Goals as goal

pub after_zero-requires : goal.after_zero-requires
after_zero-requires c =
    let e = c.self.inside.event.value in
    (text_after_id e, c.as_str.ensures ∙ c.self.invariant.text ∙ text_opens e c.self.invariant.number)

pub returns-clause-text : goal.returns-clause-text
returns-clause-text c =
    let e = c.self.inside.event.value in
    let text = c.as_str.ensures ∙ c.self.invariant.text ∙ text_opens e c.self.invariant.number in
    rw (← c.self.view_is) (append_cancel_left zero_front c.after_zero.result.now (text_after_id e) (sym c.after_zero.ensures ∙ text))

pub returns-clause-event : goal.returns-clause-event
returns-clause-event c = rw (← c.self.view_is) (λ n fits. event_numbered c.self.inside.event.value c.self.inside.moment n fits c.self.invariant.event)
