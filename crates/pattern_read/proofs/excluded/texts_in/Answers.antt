use Rattle.std.proofs.Common.{rules, ◌≡◌, List, [], ◌∷◌, refl, sym, ap, ◌∙◌, subst}
use Rattle.json_text.specs.Tree.{list, items_of}
use Rattle.json_text.specs.View.{tree_of, trees_of}
use Rattle.json_text.specs.declared.value.Json.{Json}
use Rattle.json_text.proofs.ViewLemmas.{tree_of_list}
use Rattle.pattern_read.specs.Test.{texts_in, all_texts}
use Rattle.pattern_read.specs.Reading.{GivesSome}
use Rattle.pattern_read.proofs.ExcludedLemmas.{trees_back}
use Rattle.pattern_read.proofs.excluded.texts_in.Goals as goal

texts_listed : (xs : List Json) → (xs ≡ [] → ⊥) → all_texts (trees_of xs) ≡ texts_in (list (items_of (trees_of xs)))
texts_listed [] some = absurd (some refl)
texts_listed (x ∷ xs) some = ap (λ ts. all_texts (tree_of x ∷ ts)) (sym (trees_back (trees_of xs)))

pub returns-in-List : goal.returns-in-List
returns-in-List c =
    let some : c.in-List.items.items ≡ [] → ⊥ = search rules in
    let is : all_texts (trees_of c.in-List.items.items) ≡ texts_in (tree_of c.args.operand) =
    texts_listed c.in-List.items.items some ∙ ap texts_in (sym (ap tree_of c.in-List.is ∙ tree_of_list c.in-List.items)) in
    subst (λ o. GivesSome (λ v. v.items) o c.all_texts.result) is c.all_texts.ensures
