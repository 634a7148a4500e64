use Rattle.std.proofs.Common.{◌≡◌, ◌↔◌, ℕ, Bool, List, false, true, ◌⊎◌, map, unwrap_or, option_copied, ap, sym, refl, ◌∙◌, subst, arith}
use Rattle.std.specs.Prelude.{IfSome}
use Rattle.json_text.specs.Compact.{IsValue}
use Rattle.pattern_meaning.specs.Pattern.{pattern, no_branches, branches_of, tests, LacksField}
use Rattle.pattern_meaning.specs.PatternView.{test_of, field_of, pattern_of, fields_view}
use Rattle.pattern_meaning.specs.declared.pattern.Pattern.{out-Pattern}
use Rattle.pattern_meaning.specs.Frames.{value_of}
use Rattle.pattern_meaning.specs.Meets.{nothing, OnSome, PatternMet, FieldsMet, FieldMet, Decides, HasOneView, size_of, field_weight, fields_weight}
use Rattle.pattern_meaning.proofs.FrameLemmas.{rest_of, fields_first, first_same, no_field}
use Rattle.pattern_meaning.proofs.PatternLemmas.{pattern_is, field_tests, field_below}
use Rattle.pattern_meaning.proofs.QuickLemmas.{seen, seen_below, no_field_met, field_failed, rest_joined, pattern_met, no_branch, tests_met}
use Rattle.pattern_meaning.proofs.SizeLemmas.{item_below}
use Rattle.pattern_meaning.proofs.WalkLemmas.{item_met, item_passed, items_done, untrue}
use Rattle.pattern_meaning.proofs.quick.+quick.Goals as goal

pub pattern_meets-returns-in-empty : goal.pattern_meets-returns-in-empty
pattern_meets-returns-in-empty t c =
    let p = c.args.pattern.now in
    let value = value_of (option_copied c.args.value) in
    let fs = fields_view c.deref.result.now in
    let e : pattern_of p ≡ pattern fs no_branches = pattern_is p
    ∙ ap (λ l. pattern (fields_view l) (branches_of (map pattern_of (out-Pattern p).branches.items))) (sym c.deref.ensures.value)
    ∙ ap (λ l. pattern fs (branches_of (map pattern_of l))) (sym c.as_slice.ensures.value)
    ∙ ap (pattern fs) (no_branch c.as_slice.result.now c.in-empty.len_below) in
    subst (λ q. IfSome c.fields_meet.result (λ b. Decides b (λ a at. OnSome value (PatternMet a at q)))) (sym e)
    (pattern_met value fs c.fields_meet.result c.fields_meet.ensures)

pub fields_meet-field_meets-requires : goal.fields_meet-field_meets-requires
fields_meet-field_meets-requires t c =
    let fs = c.loop-left.left.now in
    let g = c.index-left-0-in-loop-left.result in
    let value = value_of (option_copied c.args.value) in
    let inside = value_of (option_copied c.member-inside.result) in
    let e : inside ≡ seen c.as_str.result.now value = ap (λ o. unwrap_or o nothing) c.member-inside.ensures in
    let s = seen_below c.as_str.result.now value c.requires.node in
    let first = fields_first fs g c.in-len1-up.len_at_least c.index-left-0-in-loop-left.is in (
      omega (
        arith,
        c.decreases,
        c.loop-left.invariant.1,
        ap size_of e,
        s.0,
        ap fields_weight first,
        ap (λ y. field_weight (field_of y.1)) c.index-left-0-in-loop-left.is,
      ),
      subst IsValue (sym e) s.1,
    )

pub fields_meet-returns-then-not-branch : goal.fields_meet-returns-then-not-branch
fields_meet-returns-then-not-branch t c =
    let fs = c.loop-left.left.now in
    let f = c.index-left-0.result in
    let value = value_of (option_copied c.args.value) in
    let inside = value_of (option_copied c.member-inside.result) in
    let b = c.in_ok-field_meets.field-0 in
    let named : c.as_str.result.now ≡ f.0 = c.as_str.ensures ∙ ap (λ x. x.0) (sym c.index-left-0.is) in
    let same = ap (λ x. field_of x.1) (first_same fs c.index-left-0-in-loop-left.result f c.in-len1-up.len_at_least ∙ sym c.index-left-0.is) in
    let e : inside ≡ seen f.0 value = ap (λ o. unwrap_or o nothing) c.member-inside.ensures ∙ ap (λ k. seen k value) named in
    let met = subst (λ x. Decides b (λ a at. OnSome inside (FieldMet a at x))) same c.in_ok-field_meets.ensures in
    let failed = subst (λ l. Decides false (λ a at. OnSome value (FieldsMet a at l))) (sym (fields_first fs f c.in-len1-up.len_at_least c.index-left-0.is))
    (field_failed value inside f.0 (field_of f.1) (fields_view (rest_of fs)) b c.requires.node e met c.if-not-branch.true) in
    λ a at. (λ h. cc, λ r. (failed a at).1 ((c.loop-left.invariant.0 a at).1 r))

pub fields_meet-loop-left-preserved : goal.fields_meet-loop-left-preserved
fields_meet-loop-left-preserved t c =
    let fs = c.loop-left.left.now in
    let f = c.index-left-0.result in
    let value = value_of (option_copied c.args.value) in
    let inside = value_of (option_copied c.member-inside.result) in
    let more = fields_view (rest_of fs) in
    let b = c.in_ok-field_meets.field-0 in
    let named : c.as_str.result.now ≡ f.0 = c.as_str.ensures ∙ ap (λ x. x.0) (sym c.index-left-0.is) in
    let again : c.as_str-in-len1-up.result.now ≡ f.0 = c.as_str-in-len1-up.ensures ∙ ap (λ x. x.0) (sym c.index-left-0.is) in
    let same = ap (λ x. field_of x.1) (first_same fs c.index-left-0-in-loop-left.result f c.in-len1-up.len_at_least ∙ sym c.index-left-0.is) in
    let e : inside ≡ seen f.0 value = ap (λ o. unwrap_or o nothing) c.member-inside.ensures ∙ ap (λ k. seen k value) named in
    let met = subst (λ x. Decides b (λ a at. OnSome inside (FieldMet a at x))) same c.in_ok-field_meets.ensures in
    let apart = subst (λ k. HasOneView inside ⊎ LacksField k more) again (c.is_apart.ensures c.if-not-is_apart.false) in
    let first = fields_first fs f c.in-len1-up.len_at_least c.index-left-0.is in
    let step = rest_joined value inside f.0 (field_of f.1) more b c.requires.node e apart met c.if-not-branch.false in
    let left = subst (λ l. (a : List (List ℕ) → Bool) (at : List (List ℕ)) → OnSome value (FieldsMet a at more) ↔ OnSome value (FieldsMet a at l)) (sym first) step in (
      λ a at. (λ h. (c.loop-left.invariant.0 a at).0 ((left a at).0 h), λ h. (left a at).1 ((c.loop-left.invariant.0 a at).1 h)),
      omega (arith, c.loop-left.invariant.1, ap fields_weight first),
    )

pub fields_meet-returns : goal.fields_meet-returns
fields_meet-returns t c =
    let value = value_of (option_copied c.args.value) in
    let none = subst (λ l. Decides true (λ a at. OnSome value (FieldsMet a at l))) (sym (no_field c.loop-left.left.now c.in_default.len_below))
    (no_field_met value c.requires.node) in
    λ a at. (λ h. (c.loop-left.invariant.0 a at).0 ((none a at).0 refl), λ h. refl)

pub field_meets-returns-in-Some : goal.field_meets-returns-in-Some
field_meets-returns-in-Some t c =
    subst (λ x. IfSome c.item_meets.result (λ b. Decides b (λ a at. OnSome x (FieldMet a at (field_of c.args.field.now))))) (sym c.in-Some.ensures)
    c.item_meets.ensures

pub field_meets-returns-in-Tests : goal.field_meets-returns-in-Tests
field_meets-returns-in-Tests t c =
    let value = value_of (option_copied c.args.value) in
    let ts = map test_of c.deref.result.now in
    let e : field_of c.args.field.now ≡ tests ts = ap field_of c.in-Tests.is ∙ field_tests c.in-Tests.tests ∙ ap (λ l. tests (map test_of l)) (sym c.deref.ensures.value) in
    subst (λ f. IfSome c.tests_meet.result (λ b. Decides b (λ a at. OnSome value (FieldMet a at f)))) (sym e)
    (tests_met value ts c.tests_meet.result (c.requires.value, c.in-None.ensures) c.tests_meet.ensures)

pub field_meets-returns-in-Below : goal.field_meets-returns-in-Below
field_meets-returns-in-Below t c =
    let value = value_of (option_copied c.args.value) in
    subst (λ f. IfSome c.pattern_meets.result (λ b. Decides b (λ a at. OnSome value (FieldMet a at f))))
    (sym (ap field_of c.in-Below.is ∙ field_below c.in-Below.pattern)) c.pattern_meets.ensures

pub item_meets-field_meets-requires : goal.item_meets-field_meets-requires
item_meets-field_meets-requires t c =
    let below = item_below c.args.items.now c.loop-item.item-index c.item-item.result c.loop-item-test.true c.item-item.is c.requires.items in
    (omega (arith, c.decreases, below.0), below.1)

pub item_meets-returns-then-branch : goal.item_meets-returns-then-branch
item_meets-returns-then-branch t c = λ a at. (
  λ h. item_met c.args.items.now c.loop-item.item-index c.item-item.result (FieldMet a at (field_of c.args.field.now)) c.loop-item-test.true c.item-item.is
      (c.loop-item.invariant a at) ((c.in_ok-field_meets.ensures a at).0 c.if-branch.true),
  λ h. refl,
)

pub item_meets-loop-item-preserved : goal.item_meets-loop-item-preserved
item_meets-loop-item-preserved t c = λ a at.
    item_passed c.args.items.now c.loop-item.item-index c.item-item.result (FieldMet a at (field_of c.args.field.now)) c.loop-item-test.true c.item-item.is
    (c.loop-item.invariant a at) (λ h. untrue ((c.in_ok-field_meets.ensures a at).1 h) c.if-branch.false)

pub item_meets-returns : goal.item_meets-returns
item_meets-returns t c = λ a at. (
  λ h. cc,
  λ h. absurd (items_done c.args.items.now c.loop-item.item-index (FieldMet a at (field_of c.args.field.now)) c.loop-item-test.false (c.loop-item.invariant a at) h),
)
