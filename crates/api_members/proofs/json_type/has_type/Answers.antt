use Rattle.std.proofs.Common.{refl, ap, ◌∙◌}
use Rattle.json_text.specs.View.{tree_of}
use Rattle.json_text.proofs.ViewLemmas.{tree_of_list}
use Rattle.api_members.proofs.ValueLemmas.{values_back}
use Rattle.api_members.proofs.json_type.has_type.Goals as goal

pub returns-in-Texts-List : goal.returns-in-Texts-List
returns-in-Texts-List c =
    let tree = ap tree_of c.in-Texts-List.is-1 ∙ tree_of_list c.in-Texts-List.items in
    rw (c.in-Texts-List.is-0, tree, values_back, c.are_texts.ensures, c.as_slice.ensures.value) refl
