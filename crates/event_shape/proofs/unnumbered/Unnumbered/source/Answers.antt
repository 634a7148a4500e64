use Rattle.std.proofs.Common.{ap, codes}
use Rattle.json_text.specs.Access.{member_of}
use Rattle.event_shape.proofs.unnumbered.Unnumbered.source.Goals as goal

pub text_member-requires : goal.text_member-requires
text_member-requires c = (c.self.inside.event.value.source, ap (member_of (codes "source")) c.self.invariant.tree)
