use Rattle.std.proofs.Common.{◌≡◌, [], ◌∷◌, true, false, map, sym, ap, ◌∙◌, subst}
use Rattle.json_text.specs.Tree.{Tree, number, text, list, items_of}
use Rattle.json_text.specs.View.{tree_of, trees_of}
use Rattle.json_text.proofs.ViewLemmas.{tree_of_list, tree_of_number, tree_of_text}
use Rattle.pattern_meaning.specs.Pattern.{same, anything_but, tests_of}
use Rattle.pattern_meaning.specs.PatternView.{test_of}
use Rattle.pattern_read.specs.Test.{IsOperand, AreExcluded, are_alike}
use Rattle.pattern_read.specs.Check.{operand_checks}
use Rattle.pattern_read.specs.Reading.{IsReported, Gives}
use Rattle.pattern_read.specs.declared.kind.Kind.TheVariants.{AnythingBut}
use Rattle.pattern_read.proofs.ExcludedLemmas.{but_test, listed_excluded, unlike_reported, number_excluded, text_excluded}
use Rattle.pattern_read.proofs.excluded.read_anything_but.Goals as goal

pub returns-in_ok-tests-in-List : goal.returns-in_ok-tests-in-List
returns-in_ok-tests-in-List c =
    let xs = trees_of c.in-List.items.items in
    let tests = map test_of c.in_ok-tests-in-List.tests.items in
    let is : list (items_of xs) ≡ tree_of c.args.operand = sym (ap tree_of c.in-List.is ∙ tree_of_list c.in-List.items) in
    let alike : are_alike xs ≡ true =
    ap (λ ys. are_alike (trees_of ys)) (sym c.as_slice.ensures.value) ∙ sym c.are_alike.ensures ∙ c.if-are_alike.true in
    (tests, subst (λ (t : Tree). AreExcluded t tests) is (listed_excluded xs tests alike c.in_ok-tests-in-List.ensures), but_test c.in_ok-tests-in-List.tests)

pub returns-else-are_alike : goal.returns-else-are_alike
returns-else-are_alike c =
    let xs = trees_of c.in-List.items.items in
    let is : list (items_of xs) ≡ tree_of c.args.operand = sym (ap tree_of c.in-List.is ∙ tree_of_list c.in-List.items) in
    let unlike : are_alike xs ≡ false =
    ap (λ ys. are_alike (trees_of ys)) (sym c.as_slice.ensures.value) ∙ sym c.are_alike.ensures ∙ c.if-are_alike.false in
    subst (λ (t : Tree). IsReported (operand_checks AnythingBut t) c.of.result) is
    (subst (IsReported (operand_checks AnythingBut (list (items_of xs)))) (sym c.of.ensures) (unlike_reported xs unlike))

pub returns-in-Num : goal.returns-in-Num
returns-in-Num c =
    let s = c.in-Num.spelling in
    let r = c.read_scalar.result in
    let is : number s ≡ tree_of c.args.operand = sym (ap tree_of c.in-Num.is ∙ tree_of_number s) in
    let read = subst (λ (t : Tree). Gives test_of (λ test. test ≡ anything_but (tests_of (same t ∷ []))) [] r) (tree_of_number s) c.read_scalar.ensures in
    subst (λ (t : Tree). Gives test_of (IsOperand AnythingBut t) (operand_checks AnythingBut t) r) is (number_excluded s r read)

pub returns-in-Str : goal.returns-in-Str
returns-in-Str c =
    let s = c.in-Str.text in
    let r = c.read_scalar-in-Str.result in
    let is : text s ≡ tree_of c.args.operand = sym (ap tree_of c.in-Str.is ∙ tree_of_text s) in
    let read = subst (λ (t : Tree). Gives test_of (λ test. test ≡ anything_but (tests_of (same t ∷ []))) [] r) (tree_of_text s) c.read_scalar-in-Str.ensures in
    subst (λ (t : Tree). Gives test_of (IsOperand AnythingBut t) (operand_checks AnythingBut t) r) is (text_excluded s r read)
