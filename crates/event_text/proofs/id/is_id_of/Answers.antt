use Rattle.std.proofs.Common.{sym, ap, ◌∙◌}
use Rattle.std.proofs.lemmas.Bool.Decides.{Decides-eqb}
use Rattle.std.proofs.lemmas.Slice.Eq.{slice_eq-Decides}
use Rattle.uuid.specs.Text.{hyphenated_text, lower}
use Rattle.event_text.proofs.id.is_id_of.Goals as goal

pub returns : goal.returns
returns c = λ holds.
    let same = (slice_eq-Decides Decides-eqb c.as_bytes.result.now c.args.id.now c.eq.result c.eq.ensures).0 holds in
    sym same ∙ c.as_bytes.ensures.value ∙ c.encode_lower.ensures.text ∙ ap (hyphenated_text lower) (c.hyphenated.ensures ∙ c.from_u128-uuid.ensures)
