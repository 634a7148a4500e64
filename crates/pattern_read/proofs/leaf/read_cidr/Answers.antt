use Rattle.std.proofs.Common.{◌≡◌, sym, ap, ◌∙◌, subst}
use Rattle.json_text.specs.Tree.{Tree, text}
use Rattle.json_text.specs.View.{tree_of}
use Rattle.json_text.proofs.ViewLemmas.{tree_of_text}
use Rattle.pattern_meaning.specs.PatternView.{test_of}
use Rattle.pattern_read.specs.Test.{IsOperand}
use Rattle.pattern_read.specs.Check.{operand_checks}
use Rattle.pattern_read.specs.Reading.{Gives}
use Rattle.pattern_read.specs.declared.kind.Kind.TheVariants.{Cidr}
use Rattle.pattern_read.proofs.leaf.read_cidr.Goals as goal

pub returns-in-Str : goal.returns-in-Str
returns-in-Str c =
    let is : text c.as_str.result.now ≡ tree_of c.args.operand = ap text c.as_str.ensures ∙ sym (tree_of_text _) ∙ sym (ap tree_of c.in-Str.is) in
    subst (λ (t : Tree). Gives test_of (IsOperand Cidr t) (operand_checks Cidr t) c.read_network.result) is c.read_network.ensures
