use Rattle.std.proofs.Common.{refl, ap, ◌∙◌}
use Rattle.json_text.specs.View.{tree_of}
use Rattle.json_text.proofs.ViewLemmas.{tree_of_list}
use Rattle.api_members.proofs.ValueLemmas.{values_back}
use Rattle.api_members.proofs.members.list_in.Goals as goal

pub returns-in-List : goal.returns-in-List
returns-in-List c =
    let tree = ap tree_of c.in-List.is ∙ tree_of_list c.in-List.items in
    rw (tree, values_back, c.as_slice.ensures.value) refl
