use Rattle.std.proofs.Common.{◌≡◌, ◌∷◌, ◌++◌, [], ap, sym, refl, ◌∙◌, map, arith}
use Rattle.std.proofs.lemmas.Bool.{and_parts}
use Rattle.json_text.specs.View.{tree_of}
use Rattle.pattern_meaning.specs.Pattern.{pattern, field, tests, below, branches_of}
use Rattle.pattern_meaning.specs.PatternView.{test_of, field_of, pattern_of, fields_view}
use Rattle.pattern_meaning.specs.Frames.{path_of, known_of, todo_of, todo_weight}
use Rattle.pattern_meaning.specs.declared.pattern.Pattern.{out-Pattern}
use Rattle.pattern_meaning.proofs.PatternLemmas.{pattern_is, field_tests, field_below}
use Rattle.pattern_meaning.proofs.FrameLemmas.{path_root, path_key, wants_end, wants_more, rest_of, fields_first, branches_first, first_same, todo_end}
use Rattle.pattern_meaning.proofs.MeaningLemmas.{holds_decides, moved_on, not_gone}
use Rattle.pattern_meaning.proofs.GatherLemmas.{any_seen, less_field, gone_step, stay_step, below_step, below_less, branch_step, branch_less}
use Rattle.pattern_meaning.proofs.absent.+gathered.Goals as goal

pub gathered-requires-then-is_gone : goal.gathered-requires-then-is_gone
gathered-requires-then-is_gone t c =
    let f = c.index-field-0.result in
    let ts = map test_of c.in-Tests.tests.items in
    let w : todo_weight c.args.todo.now ≡ t = omega (arith, c.decreases) in
    let named : c.as_str.result.now ≡ f.0 = c.as_str.ensures ∙ ap (λ x. x.0) (first_same c.in-Fields.fields.now c.index-key-0.result f c.in-len1-up.len_at_least ∙ sym c.index-field-0.is) in
    let is_tests : field_of f.1 ≡ tests ts = ap (λ x. field_of x.1) c.index-field-0.is ∙ ap field_of c.in-Tests.is ∙ field_tests c.in-Tests.tests in
    let first : fields_view c.in-Fields.fields.now ≡ field f.0 (tests ts) (fields_view (rest_of c.in-Fields.fields.now)) =
    fields_first c.in-Fields.fields.now f c.in-len1-up.len_at_least c.index-field-0.is ∙ ap (λ g. field f.0 g (fields_view (rest_of c.in-Fields.fields.now))) is_tests in
    let place = path_key c.as_str.result c.in-Fields.at ∙ ap (λ k. path_of c.in-Fields.at.now ++ k ∷ []) named in
    let both = and_parts _ _ (sym c.is_gone.ensures ∙ c.if-is_gone.true) in
    let step = gone_step (tree_of c.args.event.now) (pattern_of c.args.pattern.now) c.args.todo.now c.in-Fields.fields _ c.in-Fields.at _ c.in-Fields.rest c.args.known f.0 ts
    c.requires.value c.requires.absent c.requires.covered c.in-Fields.is first place (sym (any_seen c.in-Tests.tests.items) ∙ both.0) both.1 in
    (less_field c.args.todo.now c.in-Fields.fields _ c.in-Fields.at c.in-Fields.rest f.0 (tests ts) t c.in-Fields.is first w, (c.requires.value, (step.0, step.1)))

pub gathered-requires-else-is_gone : goal.gathered-requires-else-is_gone
gathered-requires-else-is_gone t c =
    let f = c.index-field-0.result in
    let ts = map test_of c.in-Tests.tests.items in
    let w : todo_weight c.args.todo.now ≡ t = omega (arith, c.decreases) in
    let named : c.as_str.result.now ≡ f.0 = c.as_str.ensures ∙ ap (λ x. x.0) (first_same c.in-Fields.fields.now c.index-key-0.result f c.in-len1-up.len_at_least ∙ sym c.index-field-0.is) in
    let is_tests : field_of f.1 ≡ tests ts = ap (λ x. field_of x.1) c.index-field-0.is ∙ ap field_of c.in-Tests.is ∙ field_tests c.in-Tests.tests in
    let first : fields_view c.in-Fields.fields.now ≡ field f.0 (tests ts) (fields_view (rest_of c.in-Fields.fields.now)) =
    fields_first c.in-Fields.fields.now f c.in-len1-up.len_at_least c.index-field-0.is ∙ ap (λ g. field f.0 g (fields_view (rest_of c.in-Fields.fields.now))) is_tests in
    let place = path_key c.as_str.result c.in-Fields.at ∙ ap (λ k. path_of c.in-Fields.at.now ++ k ∷ []) named in
    let step = stay_step (tree_of c.args.event.now) (pattern_of c.args.pattern.now) c.args.todo.now c.in-Fields.fields _ c.in-Fields.at c.in-Fields.rest c.args.known f.0 ts _
    c.requires.value c.requires.covered c.in-Fields.is first place
    (λ asked. not_gone _ _ (sym c.is_gone.ensures ∙ c.if-is_gone.false) (any_seen c.in-Tests.tests.items ∙ asked)) in
    (less_field c.args.todo.now c.in-Fields.fields _ c.in-Fields.at c.in-Fields.rest f.0 (tests ts) t c.in-Fields.is first w, (c.requires.value, (c.requires.absent, step)))

pub gathered-requires-in-Below : goal.gathered-requires-in-Below
gathered-requires-in-Below t c =
    let f = c.index-field-0.result in
    let q = pattern_of c.in-Below.inner in
    let w : todo_weight c.args.todo.now ≡ t = omega (arith, c.decreases) in
    let named : c.as_str.result.now ≡ f.0 = c.as_str.ensures ∙ ap (λ x. x.0) (first_same c.in-Fields.fields.now c.index-key-0.result f c.in-len1-up.len_at_least ∙ sym c.index-field-0.is) in
    let is_below : field_of f.1 ≡ below q = ap (λ x. field_of x.1) c.index-field-0.is ∙ ap field_of c.in-Below.is ∙ field_below c.in-Below.inner in
    let first : fields_view c.in-Fields.fields.now ≡ field f.0 (below q) (fields_view (rest_of c.in-Fields.fields.now)) =
    fields_first c.in-Fields.fields.now f c.in-len1-up.len_at_least c.index-field-0.is ∙ ap (λ g. field f.0 g (fields_view (rest_of c.in-Fields.fields.now))) is_below in
    let place = path_key c.as_str.result c.in-Fields.at ∙ ap (λ k. path_of c.in-Fields.at.now ++ k ∷ []) named in
    let fs = fields_view c.deref-in-Below.result.now in
    let opened = pattern_is c.in-Below.inner
    ∙ ap (λ l. pattern (fields_view l) (branches_of (map pattern_of (out-Pattern c.in-Below.inner).branches.items))) (sym c.deref-in-Below.ensures.value)
    ∙ ap (λ l. pattern fs (branches_of (map pattern_of l))) (sym c.deref.ensures.value) in (
      below_less c.args.todo.now c.in-Fields.fields _ c.deref-in-Below.result c.deref.result c.in-Fields.at _ _ c.in-Fields.rest _ _ f.0 q t
          c.in-Fields.is first opened refl refl w,
      (
        c.requires.value,
        (
          c.requires.absent,
          moved_on (tree_of c.args.event.now) (pattern_of c.args.pattern.now) (known_of c.args.known.now) (todo_of c.args.todo.now) _
              (below_step c.args.todo.now c.in-Fields.fields _ c.deref-in-Below.result c.deref.result c.in-Fields.at _ _ c.in-Fields.rest _ _ f.0 q
              c.in-Fields.is first opened place place refl refl) c.requires.covered,
        ),
      ),
    )

pub gathered-requires-in-len1-up-branches : goal.gathered-requires-in-len1-up-branches
gathered-requires-in-len1-up-branches t c =
    let q = pattern_of c.branch-item.result in
    let w : todo_weight c.args.todo.now ≡ t = omega (arith, c.decreases) in
    let first = branches_first c.in-Branches.branches.now c.branch-item.result c.in-len1-up-branches.len_at_least c.branch-item.is in
    let fs = fields_view c.deref-in-len1-up-branches-2.result.now in
    let opened = pattern_is c.branch-item.result
    ∙ ap (λ l. pattern (fields_view l) (branches_of (map pattern_of (out-Pattern c.branch-item.result).branches.items))) (sym c.deref-in-len1-up-branches-2.ensures.value)
    ∙ ap (λ l. pattern fs (branches_of (map pattern_of l))) (sym c.deref-in-len1-up-branches.ensures.value) in (
      branch_less c.args.todo.now c.in-Branches.branches _ c.deref-in-len1-up-branches.result c.deref-in-len1-up-branches-2.result c.in-Branches.at c.in-Branches.rest _ _ q t
          c.in-Branches.is first opened refl refl w,
      (
        c.requires.value,
        (
          c.requires.absent,
          moved_on (tree_of c.args.event.now) (pattern_of c.args.pattern.now) (known_of c.args.known.now) (todo_of c.args.todo.now) _
              (branch_step c.args.todo.now c.in-Branches.branches _ c.deref-in-len1-up-branches.result c.deref-in-len1-up-branches-2.result c.in-Branches.at c.in-Branches.rest _ _ q
              c.in-Branches.is first opened refl refl) c.requires.covered,
        ),
      ),
    )

pub returns-in-End : goal.returns-in-End
returns-in-End t c =
    let p = pattern_of c.args.pattern.now in
    holds_decides p (tree_of c.args.event.now) (known_of c.args.known.now) (todo_of c.args.todo.now) _ _ c.meets.result c.requires.absent c.requires.covered
    (ap todo_of c.in-End.is ∙ todo_end) path_root (wants_more _ _ _ ∙ ap (λ ws. ([], below p) ∷ ws) wants_end) c.meets.ensures
