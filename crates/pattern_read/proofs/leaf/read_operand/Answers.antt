use Rattle.std.proofs.Common.{sym, subst}
use Rattle.json_text.specs.View.{tree_of}
use Rattle.pattern_meaning.specs.PatternView.{test_of}
use Rattle.pattern_read.specs.Test.{IsOperand}
use Rattle.pattern_read.specs.Check.{operand_checks}
use Rattle.pattern_read.specs.Reading.{Gives}
use Rattle.pattern_read.specs.declared.kind.Kind.{Kind}
use Rattle.pattern_read.specs.declared.kind.Kind.TheVariants.{Prefix, Suffix, EqualsIgnoreCase, Exists}
use Rattle.pattern_read.proofs.leaf.read_operand.Goals as goal

pub returns-in-Prefix : goal.returns-in-Prefix
returns-in-Prefix c =
    let t = tree_of c.args.operand in
    subst (λ (kind : Kind). Gives test_of (IsOperand kind t) (operand_checks kind t) c.required.result) (sym c.in-Prefix.is)
    (c.required.ensures Prefix t tt c.prefix_test.ensures)

pub returns-in-Suffix : goal.returns-in-Suffix
returns-in-Suffix c =
    let t = tree_of c.args.operand in
    subst (λ (kind : Kind). Gives test_of (IsOperand kind t) (operand_checks kind t) c.required-in-Suffix.result) (sym c.in-Suffix.is)
    (c.required-in-Suffix.ensures Suffix t tt c.suffix_test.ensures)

pub returns-in-EqualsIgnoreCase : goal.returns-in-EqualsIgnoreCase
returns-in-EqualsIgnoreCase c =
    let t = tree_of c.args.operand in
    subst (λ (kind : Kind). Gives test_of (IsOperand kind t) (operand_checks kind t) c.required-in-EqualsIgnoreCase.result) (sym c.in-EqualsIgnoreCase.is)
    (c.required-in-EqualsIgnoreCase.ensures EqualsIgnoreCase t tt c.equal_test.ensures)

pub returns-in-Exists : goal.returns-in-Exists
returns-in-Exists c =
    let t = tree_of c.args.operand in
    subst (λ (kind : Kind). Gives test_of (IsOperand kind t) (operand_checks kind t) c.required-in-Exists.result) (sym c.in-Exists.is)
    (c.required-in-Exists.ensures Exists t tt c.exists_test.ensures)
