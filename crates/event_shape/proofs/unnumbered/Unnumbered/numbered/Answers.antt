use Rattle.std.proofs.Common.{◌++◌, ◌∙◌, ap}
use Rattle.std.specs.Prelude.{string_bytes}
use Rattle.event_shape.proofs.UnnumberedLemmas.{text_numbered}
use Rattle.event_shape.proofs.unnumbered.Unnumbered.numbered.Goals as goal

pub returns-clause-text : goal.returns-clause-text
returns-clause-text c =
    c.from.ensures ∙ text_numbered c.args.self.now.event c.args.number (string_bytes c.in_ok-text.text) (string_bytes c.push_str.new.self)
    (string_bytes c.push_id.new.out) (string_bytes c.push_str-2.new.self) c.in_ok-text.ensures.bytes c.in_ok-push_str.ensures.bytes
    c.in_ok-push_id.ensures (c.in_ok-push_str-2.ensures.bytes ∙ ap (λ t. string_bytes c.push_id.new.out ++ t) c.after_id-rest.ensures.text)
