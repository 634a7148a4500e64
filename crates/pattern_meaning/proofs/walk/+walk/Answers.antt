use Rattle.std.proofs.Common.{◌≡◌, ◌↔◌, ◌∷◌, [], IsTrue, map, option_copied, ap, sym, ◌∙◌, subst, refl, arith}
use Rattle.json_text.specs.Tree.{list, items_of}
use Rattle.json_text.specs.View.{tree_of, trees_of}
use Rattle.json_text.proofs.ViewLemmas.{tree_of_list}
use Rattle.json_text.specs.Compact.{IsValue}
use Rattle.pattern_meaning.specs.Pattern.{pattern, below, branch, branches_of}
use Rattle.pattern_meaning.specs.declared.pattern.Pattern.{out-Pattern}
use Rattle.pattern_meaning.specs.PatternView.{test_of, field_of, pattern_of, fields_view}
use Rattle.pattern_meaning.specs.Frames.{need_of, path_of, wants_of, value_of, known_of}
use Rattle.pattern_meaning.specs.Meets.{OnSome, WithKeyMet, AllMet, EachKeyMet, FieldsMet, BranchesMet, SomeMet, nothing, size_of, wants_weight, known_in}
use Rattle.pattern_meaning.proofs.SizeLemmas.{item_below, member_below, some_size}
use Rattle.pattern_meaning.proofs.PatternLemmas.{pattern_is}
use Rattle.pattern_meaning.proofs.FrameLemmas.{wants_end, wants_more, path_key, rest_of, branches_first, fields_first, first_wanted, some_branch, no_field}
use Rattle.pattern_meaning.specs.declared.frames.Path.TheVariants.{Key}
use Rattle.pattern_meaning.proofs.WalkLemmas.{joined, later_met, tests_met, tests_failed, opened_met, member_met, member_missing, item_met}
use Rattle.pattern_meaning.proofs.WalkLemmas.{item_passed, items_done, field_opened, branch_opened, some_first, some_later, equal, untrue}
use Rattle.pattern_meaning.proofs.walk.+walk.Goals as goal

pub chosen-returns-in-End : goal.chosen-returns-in-End
chosen-returns-in-End t c =
    let a = known_in (known_of c.args.site.known.now) in
    let at = path_of c.args.site.at.now in
    let value = value_of (option_copied c.args.site.value) in
    let found = wants_of c.args.found.now in
    let e : wants_of c.args.wanted.now ≡ [] = ap wants_of c.in-End.is ∙ wants_end in
    subst (λ ws. IsTrue c.members_meet.result ↔ OnSome value (λ v. WithKeyMet a at c.args.key.now ws v × AllMet a at found v)) (sym e)
    (joined a at value found c.members_meet.result c.requires.1.1.1 c.members_meet.ensures)

pub chosen-returns-then-some_holds : goal.chosen-returns-then-some_holds
chosen-returns-then-some_holds t c =
    let a = known_in (known_of c.args.site.known.now) in
    let at = path_of c.args.site.at.now in
    let value = value_of (option_copied c.args.site.value) in
    let found = wants_of c.args.found.now in
    let rest = wants_of c.in-More.rest.now in
    let e = ap wants_of c.in-More.is ∙ wants_more c.in-More.other c.in-More.need c.in-More.rest
    ∙ ap (λ f. (c.in-More.other.now, f) ∷ rest) (ap need_of c.in-Tests.is) in
    subst (λ ws. IsTrue c.chosen-then-some_holds.result ↔ OnSome value (λ v. WithKeyMet a at c.args.key.now ws v × AllMet a at found v)) (sym e)
    (tests_met a at value c.args.key.now c.in-More.other.now (map test_of c.in-Tests.tests.now.items) rest found
    c.some_holds.result c.chosen-then-some_holds.result c.requires.1.1.1
    (equal c.in-More.other.now c.args.key.now (sym c.if-ne.false ∙ c.ne.ensures)) c.some_holds.ensures c.if-some_holds.true c.chosen-then-some_holds.ensures)

pub chosen-returns-else-some_holds : goal.chosen-returns-else-some_holds
chosen-returns-else-some_holds t c =
    let a = known_in (known_of c.args.site.known.now) in
    let at = path_of c.args.site.at.now in
    let value = value_of (option_copied c.args.site.value) in
    let found = wants_of c.args.found.now in
    let rest = wants_of c.in-More.rest.now in
    let e = ap wants_of c.in-More.is ∙ wants_more c.in-More.other c.in-More.need c.in-More.rest
    ∙ ap (λ f. (c.in-More.other.now, f) ∷ rest) (ap need_of c.in-Tests.is) in
    subst (λ ws. IsTrue c.some_holds.result ↔ OnSome value (λ v. WithKeyMet a at c.args.key.now ws v × AllMet a at found v)) (sym e)
    (tests_failed a at value c.args.key.now c.in-More.other.now (map test_of c.in-Tests.tests.now.items) rest found
    c.some_holds.result c.requires.1.1.1
    (equal c.in-More.other.now c.args.key.now (sym c.if-ne.false ∙ c.ne.ensures)) c.some_holds.ensures (λ h. untrue h c.if-some_holds.false))

pub chosen-returns-in-Pattern : goal.chosen-returns-in-Pattern
chosen-returns-in-Pattern t c =
    let a = known_in (known_of c.args.site.known.now) in
    let at = path_of c.args.site.at.now in
    let value = value_of (option_copied c.args.site.value) in
    let found = wants_of c.args.found.now in
    let rest = wants_of c.in-More.rest.now in
    let fs = fields_view c.deref.result.now in
    let bs = branches_of (map pattern_of c.deref-in-Pattern.result.now) in
    let is : pattern_of c.in-Pattern.pattern.now ≡ pattern fs bs = pattern_is c.in-Pattern.pattern.now
    ∙ ap (λ l. pattern (fields_view l) (branches_of (map pattern_of (out-Pattern c.in-Pattern.pattern.now).branches.items))) (sym c.deref.ensures.value)
    ∙ ap (λ l. pattern fs (branches_of (map pattern_of l))) (sym c.deref-in-Pattern.ensures.value) in
    let e = ap wants_of c.in-More.is ∙ wants_more c.in-More.other c.in-More.need c.in-More.rest
    ∙ ap (λ f. (c.in-More.other.now, f) ∷ rest) (ap need_of c.in-Pattern.is ∙ ap below is) in
    subst (λ ws. IsTrue c.opened.result ↔ OnSome value (λ v. WithKeyMet a at c.args.key.now ws v × AllMet a at found v)) (sym e)
    (opened_met a at value c.args.key.now c.in-More.other.now fs bs rest found c.opened.result
    (equal c.in-More.other.now c.args.key.now (sym c.if-ne.false ∙ c.ne.ensures)) c.opened.ensures)

pub meets-meets-requires : goal.meets-meets-requires
meets-meets-requires t c =
    let e = ap tree_of c.in-List.is ∙ tree_of_list c.in-List.items ∙ ap (λ l. list (items_of (trees_of l))) (sym c.deref-item-items.ensures.value) in
    let below = item_below c.deref-item-items.result.now c.loop-item.item-index c.item-item.result c.loop-item-test.true c.item-item.is
    (subst IsValue e c.requires.1.1) in
    (omega (arith, c.requires.1.0, below.0, ap size_of e), below.1)

pub meets-returns-then-meets : goal.meets-returns-then-meets
meets-returns-then-meets t c =
    let holds = WithKeyMet (known_in (known_of c.args.known.now)) (path_of c.args.at.now) c.args.key.now (wants_of c.args.wanted.now) in
    let xs = c.deref-item-items.result.now in
    let e = ap tree_of c.in-List.is ∙ tree_of_list c.in-List.items ∙ ap (λ l. list (items_of (trees_of l))) (sym c.deref-item-items.ensures.value) in
    let met = item_met xs c.loop-item.item-index c.item-item.result holds c.loop-item-test.true c.item-item.is c.loop-item.invariant
    (c.meets.ensures.0 c.if-meets.true) in
    (λ h. subst (λ x. OnSome x holds) (sym e) met, λ h. refl)

pub meets-loop-item-preserved : goal.meets-loop-item-preserved
meets-loop-item-preserved t c =
    let holds = WithKeyMet (known_in (known_of c.args.known.now)) (path_of c.args.at.now) c.args.key.now (wants_of c.args.wanted.now) in
    item_passed c.deref-item-items.result.now c.loop-item.item-index c.item-item.result holds c.loop-item-test.true c.item-item.is c.loop-item.invariant
    (λ h. untrue (c.meets.ensures.1 h) c.if-meets.false)

pub meets-returns-after-loop-item : goal.meets-returns-after-loop-item
meets-returns-after-loop-item t c =
    let holds = WithKeyMet (known_in (known_of c.args.known.now)) (path_of c.args.at.now) c.args.key.now (wants_of c.args.wanted.now) in
    let xs = c.deref-item-items.result.now in
    let e = ap tree_of c.in-List.is ∙ tree_of_list c.in-List.items ∙ ap (λ l. list (items_of (trees_of l))) (sym c.deref-item-items.ensures.value) in
    let none = items_done xs c.loop-item.item-index holds c.loop-item-test.false c.loop-item.invariant in
    (λ h. cc, λ h. absurd (none (subst (λ x. OnSome x holds) e h)))

pub member_meets-meets-requires : goal.member_meets-meets-requires
member_meets-meets-requires t c =
    let below = member_below c.args.key.now (value_of (option_copied c.args.site.value)) (tree_of c.in-Some.value.now) c.requires.1.1 (sym c.in-Some.ensures) in
    (omega (arith, c.requires.1.0, below.0), below.1)

pub member_meets-chosen-requires : goal.member_meets-chosen-requires
member_meets-chosen-requires t c =
    let some = some_size (value_of (option_copied c.args.site.value)) in
    (omega (arith, c.requires.1.0, some, ap wants_weight wants_end), (tt, tt))

pub member_meets-returns-in-Some : goal.member_meets-returns-in-Some
member_meets-returns-in-Some t c =
    let a = known_in (known_of c.args.site.known.now) in
    let at = path_of c.args.site.at.now in
    let value = value_of (option_copied c.args.site.value) in
    let found = wants_of c.args.found.now in
    let x = tree_of c.in-Some.value.now in
    member_met a at value x c.args.key.now found c.meets.result c.requires.1.1 (sym c.in-Some.ensures)
    (subst (λ p. IsTrue c.meets.result ↔ OnSome x (WithKeyMet a p c.args.key.now found)) (path_key c.args.key c.args.site.at) c.meets.ensures)

pub member_meets-returns-in-None : goal.member_meets-returns-in-None
member_meets-returns-in-None t c =
    let a = known_in (known_of c.args.site.known.now) in
    let at = path_of c.args.site.at.now in
    let value = value_of (option_copied c.args.site.value) in
    let found = wants_of c.args.found.now in
    member_missing a at value c.args.key.now found c.chosen.result c.requires.1.1 (sym c.in-None.ensures)
    (subst (λ p. IsTrue c.chosen.result ↔ OnSome nothing (λ v. WithKeyMet a p c.args.key.now found v × AllMet a p [] v)) (path_key c.args.key c.args.site.at)
    (subst (λ ws. IsTrue c.chosen.result ↔ OnSome nothing (λ v.
    WithKeyMet a (path_of (Key c.args.key c.args.site.at)) c.args.key.now found v × AllMet a (path_of (Key c.args.key c.args.site.at)) ws v))
    wants_end c.chosen.ensures))

pub members_meet-returns-in-More : goal.members_meet-returns-in-More
members_meet-returns-in-More t c =
    let a = known_in (known_of c.args.site.known.now) in
    let at = path_of c.args.site.at.now in
    let value = value_of (option_copied c.args.site.value) in
    let all = wants_of c.args.found.now in
    let e = ap wants_of c.in-More.is ∙ wants_more c.in-More.key c.in-More.need c.in-More.rest in
    subst (λ ws. IsTrue c.members_meet.result ↔ EachKeyMet a at value all ws) (sym e)
    (later_met a at value all (wants_of c.in-More.rest.now) c.in-More.key.now (need_of c.in-More.need) c.members_meet.result
    (sym c.has_key.ensures ∙ c.if-has_key.true) c.members_meet.ensures)

pub some_opened-returns-then-opened : goal.some_opened-returns-then-opened
some_opened-returns-then-opened t c =
    let a = known_in (known_of c.args.site.known.now) in
    let at = path_of c.args.site.at.now in
    let value = value_of (option_copied c.args.site.value) in
    let found = wants_of c.args.found.now in
    let rest = wants_of c.args.wanted.now in
    let fs = fields_view c.deref.result.now in
    let inner = branches_of (map pattern_of c.deref-in-len1-up.result.now) in
    let more = branches_of (map pattern_of (rest_of c.args.branches.now)) in
    let is : pattern_of c.branch-item.result ≡ pattern fs inner = pattern_is c.branch-item.result
    ∙ ap (λ l. pattern (fields_view l) (branches_of (map pattern_of (out-Pattern c.branch-item.result).branches.items))) (sym c.deref.ensures.value)
    ∙ ap (λ l. pattern fs (branches_of (map pattern_of l))) (sym c.deref-in-len1-up.ensures.value) in
    let e : branches_of (map pattern_of c.args.branches.now) ≡ branch (pattern fs inner) more =
    branches_first c.args.branches.now c.branch-item.result c.in-len1-up.len_at_least c.branch-item.is ∙ ap (λ p. branch p more) is in
    let met = some_first a at value c.args.key.now fs inner more rest found c.opened.result c.opened.ensures c.if-opened.true in
    (λ h. subst (λ bs. OnSome value (λ v. SomeMet a at bs v × WithKeyMet a at c.args.key.now rest v × AllMet a at found v)) (sym e) met, λ h. c.if-opened.true)

pub some_opened-returns-else-opened : goal.some_opened-returns-else-opened
some_opened-returns-else-opened t c =
    let a = known_in (known_of c.args.site.known.now) in
    let at = path_of c.args.site.at.now in
    let value = value_of (option_copied c.args.site.value) in
    let found = wants_of c.args.found.now in
    let rest = wants_of c.args.wanted.now in
    let fs = fields_view c.deref.result.now in
    let inner = branches_of (map pattern_of c.deref-in-len1-up.result.now) in
    let more = branches_of (map pattern_of (rest_of c.args.branches.now)) in
    let is : pattern_of c.branch-item.result ≡ pattern fs inner = pattern_is c.branch-item.result
    ∙ ap (λ l. pattern (fields_view l) (branches_of (map pattern_of (out-Pattern c.branch-item.result).branches.items))) (sym c.deref.ensures.value)
    ∙ ap (λ l. pattern fs (branches_of (map pattern_of l))) (sym c.deref-in-len1-up.ensures.value) in
    let e : branches_of (map pattern_of c.args.branches.now) ≡ branch (pattern fs inner) more =
    branches_first c.args.branches.now c.branch-item.result c.in-len1-up.len_at_least c.branch-item.is ∙ ap (λ p. branch p more) is in
    let later = c.some_opened.ensures in
    subst (λ bs. IsTrue c.some_opened.result ↔ OnSome value (λ v. SomeMet a at bs v × WithKeyMet a at c.args.key.now rest v × AllMet a at found v)) (sym e)
    (some_later a at value c.args.key.now fs inner more rest found c.opened.result c.some_opened.result c.opened.ensures (λ h. untrue h c.if-opened.false) later)

pub opened-returns-in-empty-2 : goal.opened-returns-in-empty-2
opened-returns-in-empty-2 t c =
    let a = known_in (known_of c.args.site.known.now) in
    let at = path_of c.args.site.at.now in
    let value = value_of (option_copied c.args.site.value) in
    let found = wants_of c.args.found.now in
    let rest = wants_of c.args.wanted.now in
    let some = some_branch c.args.branches.now (sym c.if-is_empty.false ∙ c.is_empty.ensures) in
    subst (λ bs. IsTrue c.some_opened.result ↔ OnSome value (λ v. FieldsMet a at (fields_view c.args.fields.now) v × BranchesMet a at bs v
    × WithKeyMet a at c.args.key.now rest v × AllMet a at found v)) (sym some.2)
    (subst (λ fs. IsTrue c.some_opened.result ↔ OnSome value (λ v. FieldsMet a at fs v × BranchesMet a at (branch some.0 some.1) v
    × WithKeyMet a at c.args.key.now rest v × AllMet a at found v)) (sym (no_field c.args.fields.now c.in-empty.len_below))
    (branch_opened a at value c.args.key.now some.0 some.1 rest found c.some_opened.result
    (subst (λ bs. IsTrue c.some_opened.result ↔ OnSome value (λ v. SomeMet a at bs v × WithKeyMet a at c.args.key.now rest v × AllMet a at found v)) some.2
    c.some_opened.ensures)))

pub opened-returns-in-len1-up : goal.opened-returns-in-len1-up
opened-returns-in-len1-up t c =
    let a = known_in (known_of c.args.site.known.now) in
    let at = path_of c.args.site.at.now in
    let value = value_of (option_copied c.args.site.value) in
    let found = wants_of c.args.found.now in
    let rest = wants_of c.args.wanted.now in
    let bs = branches_of (map pattern_of c.args.branches.now) in
    let f = c.index-fields-0.result in
    let fs = fields_view (rest_of c.args.fields.now) in
    let w = first_wanted c.args.fields.now f c.index-fields-0-2.result c.as_str.result c.need_of.result c.args.found
    c.in-len1-up.len_at_least c.index-fields-0.is c.as_str.ensures c.need_of.ensures in
    subst (λ l. IsTrue c.opened.result ↔ OnSome value (λ v. FieldsMet a at l v × BranchesMet a at bs v × WithKeyMet a at c.args.key.now rest v
    × AllMet a at found v))
    (sym (fields_first c.args.fields.now f c.in-len1-up.len_at_least c.index-fields-0.is))
    (field_opened a at value c.args.key.now fs bs rest found f.0 (field_of f.1) c.opened.result
    (subst (λ ws. IsTrue c.opened.result ↔ OnSome value (λ v. FieldsMet a at fs v × BranchesMet a at bs v × WithKeyMet a at c.args.key.now rest v
    × AllMet a at ws v))
    w c.opened.ensures))
