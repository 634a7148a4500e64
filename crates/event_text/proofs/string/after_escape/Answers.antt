use Rattle.std.proofs.Common.{[], ◌∷◌, refl, get_or}
use Rattle.event_text.proofs.TextLemmas.{cut_1, left_after, escape_begins}
use Rattle.event_text.proofs.string.after_escape.Goals as goal

pub returns-in-Some-clause-text : goal.returns-in-Some-clause-text
returns-in-Some-clause-text c =
    let bytes = c.args.bytes.now in
    let byte = get_or bytes 0 0 in (
      c.in-Some.field-0 ∷ [],
      escape_begins c.in-Some.field-0 byte bytes _ c.in-Some.ensures.0 c.in-Some.ensures.1
          (left_after bytes 1 (byte ∷ []) (cut_1 bytes byte c.in-len1-up.len_at_least refl)),
    )
