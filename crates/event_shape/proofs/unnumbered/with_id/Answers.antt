use Rattle.std.proofs.Common.{◌∙◌, ap, arith}
use Rattle.json_text.specs.Tree.{object, members_of}
use Rattle.json_text.proofs.ViewLemmas.{tree_of_object}
use Rattle.event_shape.proofs.UnnumberedLemmas.{members_are, id_put, two_members}
use Rattle.event_shape.proofs.unnumbered.with_id.Goals as goal

pub index_mut-requires : goal.index_mut-requires
index_mut-requires c = omega (arith, two_members c.in-Obj.members.items c.requires.0 (members_are c.in-Obj.members c.args.tree c.requires.0 c.in-Obj.is c.requires.1))

pub returns : goal.returns
returns c = λ e n trees is.
    let are = members_are c.in-Obj.members c.args.tree e c.in-Obj.is trees in
    tree_of_object _
    ∙ ap (λ ps. object (members_of ps)) (id_put c.in-Obj.members.items c.index_mut.result.now c.args.id e n are
    (two_members c.in-Obj.members.items e are) c.index_mut.ensures.value is)
