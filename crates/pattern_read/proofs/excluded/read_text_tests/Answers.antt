use Rattle.std.proofs.Common.{◌≡◌, [], map, sym, ap, ◌∙◌, subst}
use Rattle.std.proofs.lemmas.List.{map-append, nil_from_length}
use Rattle.std.specs.Vec.Iter.{into_iter_items}
use Rattle.pattern_meaning.specs.PatternView.{test_of}
use Rattle.pattern_read.specs.Test.{IsTextTest}
use Rattle.pattern_read.specs.Check.{text_checks}
use Rattle.pattern_read.proofs.LoopLemmas.{Behind, behind_more, behind_end}
use Rattle.pattern_read.proofs.PassLemmas.{text_passes}
use Rattle.pattern_read.proofs.excluded.read_text_tests.Goals as goal

pub loop-text-preserved : goal.loop-text-preserved
loop-text-preserved c =
    let Is = IsTextTest c.args.kind in
    let checks = text_checks c.args.kind in
    let all = c.args.texts.items in
    let rest = into_iter_items c.next.new.self in
    let done = map test_of c.loop-text.tests.items in
    let test = test_of c.in_ok-test.test in
    let before = subst (λ xs. Behind Is checks all xs done) c.in-Some.ensures.steps.0 c.loop-text.invariant.2 in (
      tt,
      tt,
      subst (Behind Is checks all rest) (sym (ap (map test_of) c.in_ok-push.ensures.items ∙ map-append test_of c.loop-text.tests.items _))
          (behind_more Is checks all rest done c.in-Some.text test (text_passes c.args.kind c.in-Some.text test c.in_ok-test.ensures) c.in_ok-test.ensures
          before),
    )

pub returns : goal.returns
returns c =
    let left = into_iter_items c.loop-text.text-iterator in
    let none : left ≡ [] = nil_from_length left (sym c.loop-text.text-iterator.rest.ok.0 ∙ c.in-None.ensures.steps.0) in
    behind_end (IsTextTest c.args.kind) (text_checks c.args.kind) c.args.texts.items left (map test_of c.loop-text.tests.items) none c.loop-text.invariant.2
