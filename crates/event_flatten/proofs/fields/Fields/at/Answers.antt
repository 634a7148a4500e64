use Rattle.std.proofs.Common.{ap, sym, ◌∙◌, filter, map}
use Rattle.event_flatten.specs.Leaves.{has_number}
use Rattle.event_flatten.specs.LeafView.{leaf_of}
use Rattle.event_flatten.proofs.FieldLemmas.{filter_map_is}
use Rattle.event_flatten.proofs.fields.Fields.at.Goals as goal

pub returns : goal.returns
returns c =
    ap (map leaf_of) c.with_number.ensures ∙ sym (filter_map_is c.args.number c.deref.result.now)
    ∙ ap (λ leaves. filter (has_number c.args.number) (map leaf_of leaves)) c.deref.ensures.value ∙ ap (filter (has_number c.args.number)) c.self.view_is
