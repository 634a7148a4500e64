use Rattle.std.proofs.Common.{◌≡◌, sym, ap, ◌∙◌}
use Rattle.json_text.specs.Tree.{text, number}
use Rattle.json_text.specs.View.{tree_of}
use Rattle.json_text.proofs.ViewLemmas.{tree_of_text, tree_of_number}
use Rattle.pattern_read.proofs.NumericLemmas.{compared}
use Rattle.pattern_read.proofs.numeric.read_comparison.Goals as goal

pub returns-in-Str-Num : goal.returns-in-Str-Num
returns-in-Str-Num c =
    let name : tree_of c.args.operator.now ≡ text c.as_str.result.now = ap tree_of c.in-Str-Num.is-0 ∙ tree_of_text _ ∙ ap text (sym c.as_str.ensures) in
    let spelling : tree_of c.args.number.now ≡ number c.as_str-in-Str-Num.result.now =
    ap tree_of c.in-Str-Num.is-1 ∙ tree_of_number _ ∙ ap number (sym c.as_str-in-Str-Num.ensures) in
    compared c.comparison.result _ _ _ _ name spelling c.comparison.ensures
