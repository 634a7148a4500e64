use Rattle.std.proofs.Common.{◌≡◌, sym, ap, ◌∙◌, subst}
use Rattle.json_text.specs.Tree.{Tree, list, items_of}
use Rattle.json_text.specs.View.{tree_of, trees_of}
use Rattle.json_text.proofs.ViewLemmas.{tree_of_list}
use Rattle.pattern_meaning.specs.PatternView.{test_of}
use Rattle.pattern_read.specs.Test.{IsOperand}
use Rattle.pattern_read.specs.Check.{operand_checks}
use Rattle.pattern_read.specs.Reading.{Gives}
use Rattle.pattern_read.specs.declared.kind.Kind.TheVariants.{Numeric}
use Rattle.pattern_read.proofs.numeric.read_numeric.Goals as goal

pub returns-in-List : goal.returns-in-List
returns-in-List c =
    let is : list (items_of (trees_of c.as_slice.result.now)) ≡ tree_of c.args.operand =
    ap (λ xs. list (items_of (trees_of xs))) c.as_slice.ensures.value ∙ sym (tree_of_list _) ∙ sym (ap tree_of c.in-List.is) in
    subst (λ (t : Tree). Gives test_of (IsOperand Numeric t) (operand_checks Numeric t) c.read_comparisons.result) is c.read_comparisons.ensures
