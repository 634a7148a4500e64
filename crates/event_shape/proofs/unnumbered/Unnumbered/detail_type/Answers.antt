use Rattle.std.proofs.Common.{ap, codes}
use Rattle.json_text.specs.Access.{member_of}
use Rattle.event_shape.proofs.unnumbered.Unnumbered.detail_type.Goals as goal

pub text_member-requires : goal.text_member-requires
text_member-requires c = (c.self.inside.event.value.detail_type, ap (member_of (codes "detail-type")) c.self.invariant.tree)
