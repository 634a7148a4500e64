use Rattle.std.proofs.Common.{sym, ap, ◌∙◌}
use Rattle.std.specs.Option.{option_copied}
use Rattle.json_text.specs.View.{tree_of, trees_of}
use Rattle.json_text.specs.Tree.{list, items_of}
use Rattle.json_text.proofs.ViewLemmas.{tree_of_list}
use Rattle.input_transform.specs.Path.{step_in}
use Rattle.input_transform.specs.declared.path.Step.TheVariants.{Place}
use Rattle.input_transform.proofs.PathLemmas.{item_got, item_found}
use Rattle.input_transform.proofs.path.step_in.Goals as goal

pub returns-in-List : goal.returns-in-List
returns-in-List c =
    let got = item_got c.deref.result.now c.in-Place.place c.get.result c.get.ensures.lookup.0 c.get.ensures.lookup.1 in
    item_found c.deref.result.now c.in-Place.place (option_copied c.get.result) got
    ∙ ap (λ items. step_in (Place c.in-Place.place) (list (items_of (trees_of items)))) c.deref.ensures.value
    ∙ ap (step_in (Place c.in-Place.place)) (sym (ap tree_of c.in-List.is ∙ tree_of_list c.in-List.items))
    ∙ ap (λ s. step_in s (tree_of c.args.json.now)) (sym c.in-Place.is)
