use Rattle.std.proofs.Common.{[], ◌∷◌}
use Rattle.std.proofs.lemmas.Option.{IfSome_then}
use Rattle.event_text.proofs.TextLemmas.{not_begun}
use Rattle.event_text.proofs.EventLemmas.{not_empty}
use Rattle.event_text.proofs.fields.after_some_string.Goals as goal

pub returns : goal.returns
returns c =
    let bytes = c.args.bytes.now in
    let other = not_begun bytes (34 ∷ []) c.starts_with.result c.starts_with.ensures.value c.if-starts_with.false in
    IfSome_then c.after_string.result c.after_string.ensures.text (λ rest p. (p.0, not_empty p.0 bytes rest.now p.1 other, p.1))
