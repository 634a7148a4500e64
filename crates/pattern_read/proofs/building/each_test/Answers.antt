use Rattle.std.proofs.Common.{◌≡◌, [], map, sym, ap, ◌∙◌, subst}
use Rattle.std.proofs.lemmas.Result.{err_from_is_err_and}
use Rattle.std.proofs.lemmas.List.{map-append, nil_from_length}
use Rattle.std.specs.Vec.Iter.{into_iter_items}
use Rattle.json_text.specs.View.{tree_of, trees_of}
use Rattle.pattern_meaning.specs.PatternView.{test_of}
use Rattle.pattern_read.specs.Test.{IsTest}
use Rattle.pattern_read.specs.Check.{test_checks}
use Rattle.pattern_read.proofs.LoopLemmas.{Behind, behind_more, behind_end, behind_fault}
use Rattle.pattern_read.proofs.PassLemmas.{test_passes}
use Rattle.pattern_read.proofs.building.each_test.Goals as goal

pub loop-item-preserved : goal.loop-item-preserved
loop-item-preserved c =
    let all = trees_of c.args.items.items in
    let rest = trees_of (into_iter_items c.next.new.self) in
    let done = map test_of c.loop-item.tests.items in
    let t = tree_of c.in-Some.item in
    let test = test_of c.in_ok-test.test in
    let before = subst (λ xs. Behind IsTest test_checks all xs done) (ap trees_of c.in-Some.ensures.steps.0) c.loop-item.invariant.2 in (
      tt,
      tt,
      subst (Behind IsTest test_checks all rest) (sym (ap (map test_of) c.in_ok-push.ensures.items ∙ map-append test_of c.loop-item.tests.items _))
          (behind_more IsTest test_checks all rest done t test (test_passes t test c.in_ok-test.ensures) c.in_ok-test.ensures before),
    )

pub returns-in_err-test : goal.returns-in_err-test
returns-in_err-test c =
    let all = trees_of c.args.items.items in
    let rest = trees_of (into_iter_items c.next.new.self) in
    let done = map test_of c.loop-item.tests.items in
    let before = subst (λ xs. Behind IsTest test_checks all xs done) (ap trees_of c.in-Some.ensures.steps.0) c.loop-item.invariant.2 in
    let p = err_from_is_err_and c.from_residual-in_err-test.result c.from_residual-in_err-test.ensures.1 in
    rw (p.1, p.2) (behind_fault IsTest test_checks all rest done (tree_of c.in-Some.item) c.in_err-test.field-0.0 before c.in_err-test.ensures)

pub returns : goal.returns
returns c =
    let left = into_iter_items c.loop-item.item-iterator in
    let none : left ≡ [] = nil_from_length left (sym c.loop-item.item-iterator.rest.ok.0 ∙ c.in-None.ensures.steps.0) in
    behind_end IsTest test_checks (trees_of c.args.items.items) (trees_of left) (map test_of c.loop-item.tests.items) (ap trees_of none) c.loop-item.invariant.2
