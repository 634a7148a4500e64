use Rattle.std.proofs.Common.{rules, ◌≡◌, ◌≤◌, ℕ, ◌∷◌, [], ◌++◌, true, false, map, List, Vec, Global, arith, sym, ap, ◌∙◌, subst, append_assoc}
use Rattle.std.proofs.lemmas.Result.{err_from_is_err_and}
use Rattle.std.proofs.lemmas.List.{map-append, nil_from_length}
use Rattle.std.specs.Vec.Iter.{into_iter_items}
use Rattle.json_text.specs.Tree.{Tree, list, members_of, items_of}
use Rattle.json_text.specs.View.{tree_of, trees_of, pairs_of}
use Rattle.json_text.proofs.ViewLemmas.{tree_of_list, tree_of_object}
use Rattle.pattern_meaning.specs.Pattern.{Field}
use Rattle.pattern_meaning.specs.PatternView.{field_of, pattern_of}
use Rattle.pattern_meaning.specs.Meets.{size_of, items_size, members_size}
use Rattle.pattern_meaning.specs.declared.pattern.Field.{Field as CodeField}
use Rattle.pattern_meaning.specs.declared.pattern.Pattern.{Pattern as CodePattern}
use Rattle.pattern_meaning.proofs.PatternLemmas.{made_is}
use Rattle.pattern_read.specs.Value.{IsPatternOf, IsNamedField, IsOr, is_or, are_branches}
use Rattle.pattern_read.specs.Check.{pattern_checks, or_checks, id_checks, field_checks, under}
use Rattle.pattern_read.specs.Reading.{IsReported, Gives, Adds}
use Rattle.pattern_read.proofs.LoopLemmas.{Behind, behind_more, behind_end, behind_fault, branches_are, branches_checked}
use Rattle.pattern_read.proofs.LoopLemmas.{MembersBehind, field_more, or_more, members_end, or_fault, field_fault}
use Rattle.pattern_read.proofs.BuildLemmas.{has_some, reported_members, or_read, no_or}
use Rattle.pattern_read.proofs.PassLemmas.{pattern_passes}
use Rattle.pattern_read.proofs.building.+build.Goals as goal

pub read_branches-returns-in_err-branch : goal.read_branches-returns-in_err-branch
read_branches-returns-in_err-branch t c =
    let Is = IsPatternOf c.args.root in
    let checks = pattern_checks c.args.root in
    let all = trees_of c.args.items.items in
    let rest = trees_of (into_iter_items c.next.new.self) in
    let new = c.loop-item.invariant.2.0 in
    let before = subst (λ xs. Behind Is checks all xs new) (ap trees_of c.in-Some.ensures.steps.0) c.loop-item.invariant.2.2 in
    let e = c.in_err-branch.field-0.0 in
    let p = err_from_is_err_and c.from_residual.result c.from_residual.ensures.1 in
    rw (p.1, p.2) (subst (λ cs. IsReported cs e) (branches_checked c.args.root all)
    (behind_fault Is checks all rest new (tree_of c.in-Some.item) e before c.in_err-branch.ensures))

pub read_branches-loop-item-preserved : goal.read_branches-loop-item-preserved
read_branches-loop-item-preserved t c =
    let Is = IsPatternOf c.args.root in
    let checks = pattern_checks c.args.root in
    let all = trees_of c.args.items.items in
    let rest = trees_of (into_iter_items c.next.new.self) in
    let new = c.loop-item.invariant.2.0 in
    let x = tree_of c.in-Some.item in
    let branch = pattern_of c.in_ok-branch.branch in
    let before = subst (λ xs. Behind Is checks all xs new) (ap trees_of c.in-Some.ensures.steps.0) c.loop-item.invariant.2.2 in
    let grown = ap (map pattern_of) c.in_ok-push.ensures.items ∙ map-append pattern_of c.loop-item.branches.items _
    ∙ ap (λ xs. xs ++ branch ∷ []) c.loop-item.invariant.2.1 ∙ append_assoc (map pattern_of c.args.before.items) new (branch ∷ []) in
    let more = behind_more Is checks all rest new x branch (pattern_passes c.args.root x branch c.in_ok-branch.ensures) c.in_ok-branch.ensures before in
    let small : items_size (items_of rest) ≤ items_size (items_of all) =
    omega (arith, ap (λ xs. items_size (items_of (trees_of xs))) c.in-Some.ensures.steps.0, c.loop-item.invariant.3) in
    (tt, tt, (new ++ branch ∷ [], grown, more), small)

pub read_branches-returns : goal.read_branches-returns
read_branches-returns t c =
    let left = into_iter_items c.loop-item.item-iterator in
    let none : left ≡ [] = nil_from_length left (sym c.loop-item.item-iterator.rest.ok.0 ∙ c.in-None.ensures.steps.0) in
    let i = c.loop-item.invariant.2 in
    let all = trees_of c.args.items.items in
    let each = behind_end (IsPatternOf c.args.root) (pattern_checks c.args.root) all (trees_of left) i.0 (ap trees_of none) i.2 in
    (i.0, branches_are c.args.root all i.0 each, i.1)

pub read_members-returns-in-Err : goal.read_members-returns-in-Err
read_members-returns-in-Err t c =
    let some : c.args.members.items ≡ [] → ⊥ = search rules in
    let chosen : is_or c.in-Some.key ≡ true = search rules in
    let root = c.args.root in
    let ms = members_of (pairs_of c.args.members.items) in
    let rest = members_of (pairs_of (into_iter_items c.next.new.self)) in
    let fs : List (List ℕ × Field) = map (λ f. (f.0, field_of f.1)) c.loop-key.fields.items in
    let bs = map pattern_of c.loop-key.branches.items in
    let before = subst (λ xs. MembersBehind root ms (members_of (pairs_of xs)) fs bs) c.in-Some.ensures.steps.0 c.loop-key.invariant.2 in
    reported_members root ms c.under.result (has_some c.args.members.items some)
    (or_fault root ms rest fs bs c.in-Some.key (tree_of c.in-Some.value) c.in-Err.fault c.under.result chosen
    (λ checks h. subst (λ k. IsReported (under k checks) c.under.result) c.as_str-in-Err.ensures (c.under.ensures checks h)) before c.in-Err.ensures)

pub read_members-returns-in-Err-read_named : goal.read_members-returns-in-Err-read_named
read_members-returns-in-Err-read_named t c =
    let some : c.args.members.items ≡ [] → ⊥ = search rules in
    let plain : is_or c.in-Some.key ≡ false = search rules in
    let root = c.args.root in
    let ms = members_of (pairs_of c.args.members.items) in
    let rest = members_of (pairs_of (into_iter_items c.next.new.self)) in
    let fs : List (List ℕ × Field) = map (λ f. (f.0, field_of f.1)) c.loop-key.fields.items in
    let bs = map pattern_of c.loop-key.branches.items in
    let before = subst (λ xs. MembersBehind root ms (members_of (pairs_of xs)) fs bs) c.in-Some.ensures.steps.0 c.loop-key.invariant.2 in
    reported_members root ms c.under-in-Err-read_named.result (has_some c.args.members.items some)
    (field_fault root ms rest fs bs c.in-Some.key (tree_of c.in-Some.value) c.in-Err-read_named.fault c.under-in-Err-read_named.result plain
    (λ checks h. subst (λ k. IsReported (under k checks) c.under-in-Err-read_named.result) c.as_str-in-Err-read_named.ensures
    (c.under-in-Err-read_named.ensures checks h)) before
    (subst (λ k. IsReported (id_checks root k ++ field_checks (tree_of c.in-Some.value)) c.in-Err-read_named.fault) c.as_str-else-eq.ensures
    c.in-Err-read_named.ensures))

pub read_members-loop-key-preserved-then-eq : goal.read_members-loop-key-preserved-then-eq
read_members-loop-key-preserved-then-eq t c =
    let chosen : is_or c.in-Some.key ≡ true = search rules in
    let root = c.args.root in
    let ms = members_of (pairs_of c.args.members.items) in
    let rest = members_of (pairs_of (into_iter_items c.next.new.self)) in
    let fs : List (List ℕ × Field) = map (λ f. (f.0, field_of f.1)) c.loop-key.fields.items in
    let bs = map pattern_of c.loop-key.branches.items in
    let before = subst (λ xs. MembersBehind root ms (members_of (pairs_of xs)) fs bs) c.in-Some.ensures.steps.0 c.loop-key.invariant.2 in
    let made = c.in-Ok.ensures in (
      tt,
      tt,
      subst (MembersBehind root ms rest fs) (sym made.2)
          (or_more root ms rest fs bs made.0 c.in-Some.key (tree_of c.in-Some.value) chosen made.1 before),
      omega (arith, ap (λ xs. members_size (members_of (pairs_of xs))) c.in-Some.ensures.steps.0, c.loop-key.invariant.3),
    )

pub read_members-loop-key-preserved : goal.read_members-loop-key-preserved
read_members-loop-key-preserved t c =
    let plain : is_or c.in-Some.key ≡ false = search rules in
    let root = c.args.root in
    let ms = members_of (pairs_of c.args.members.items) in
    let rest = members_of (pairs_of (into_iter_items c.next.new.self)) in
    let seen : List ℕ × CodeField → List ℕ × Field = λ f. (f.0, field_of f.1) in
    let fs = map seen c.loop-key.fields.items in
    let bs = map pattern_of c.loop-key.branches.items in
    let value = tree_of c.in-Some.value in
    let field = field_of c.in-Ok-read_named.field in
    let before = subst (λ xs. MembersBehind root ms (members_of (pairs_of xs)) fs bs) c.in-Some.ensures.steps.0 c.loop-key.invariant.2 in
    let named = subst (λ k. IsNamedField root k value field) c.as_str-else-eq.ensures c.in-Ok-read_named.ensures in (
      tt,
      tt,
      subst (λ xs. MembersBehind root ms rest xs bs)
          (sym (ap (map seen) c.in_ok-push-in-Ok-read_named.ensures.items ∙ map-append seen c.loop-key.fields.items _))
          (field_more root ms rest fs bs c.in-Some.key value field plain named before),
      omega (arith, ap (λ xs. members_size (members_of (pairs_of xs))) c.in-Some.ensures.steps.0, c.loop-key.invariant.3),
    )

pub read_members-read_or-requires : goal.read_members-read_or-requires
read_members-read_or-requires t c =
    (omega (arith, c.decreases, ap (λ xs. members_size (members_of (pairs_of xs))) c.in-Some.ensures.steps.0, c.loop-key.invariant.3), tt)

pub read_members-read_named-requires : goal.read_members-read_named-requires
read_members-read_named-requires t c =
    (omega (arith, c.decreases, ap (λ xs. members_size (members_of (pairs_of xs))) c.in-Some.ensures.steps.0, c.loop-key.invariant.3), tt)

pub read_value-read_members-requires : goal.read_value-read_members-requires
read_value-read_members-requires t c = (omega (arith, c.decreases, ap size_of (ap tree_of c.in-Obj.is ∙ tree_of_object c.in-Obj.members)), tt)

pub read_field-read_members-requires : goal.read_field-read_members-requires
read_field-read_members-requires t c = (omega (arith, c.decreases, ap size_of (ap tree_of c.in-Obj.is ∙ tree_of_object c.in-Obj.members)), tt)

pub read_or-read_branches-requires : goal.read_or-read_branches-requires
read_or-read_branches-requires t c = (omega (arith, c.decreases, ap size_of (ap tree_of c.in-List.is ∙ tree_of_list c.in-List.items)), tt)

pub read_branches-read_value-requires : goal.read_branches-read_value-requires
read_branches-read_value-requires t c =
    (omega (arith, c.decreases, ap (λ xs. items_size (items_of (trees_of xs))) c.in-Some.ensures.steps.0, c.loop-item.invariant.3), tt)

pub read_members-returns : goal.read_members-returns
read_members-returns t c =
    let some : c.args.members.items ≡ [] → ⊥ = search rules in
    let left = into_iter_items c.loop-key.key-iterator in
    let none : left ≡ [] = nil_from_length left (sym c.loop-key.key-iterator.rest.ok.0 ∙ c.in-None.ensures.steps.0) in
    let fs : List (List ℕ × Field) = map (λ f. (f.0, field_of f.1)) c.loop-key.fields.items in
    let bs = map pattern_of c.loop-key.branches.items in (
      has_some c.args.members.items some,
      (
        fs,
        bs,
        members_end c.args.root (members_of (pairs_of c.args.members.items)) (members_of (pairs_of left)) fs bs (ap (λ xs. members_of (pairs_of xs)) none)
            c.loop-key.invariant.2,
        made_is _,
      ),
    )

pub read_or-returns-then-are_branches : goal.read_or-returns-then-are_branches
read_or-returns-then-are_branches t c =
    let root = c.args.root in
    let xs = trees_of c.in-List.items.items in
    let old = map pattern_of c.args.branches.items in
    let view = λ (v : Vec CodePattern Global). map pattern_of v.items in
    let is : list (items_of xs) ≡ tree_of c.args.value = sym (ap tree_of c.in-List.is ∙ tree_of_list c.in-List.items) in
    let two : are_branches xs ≡ true =
    ap (λ ys. are_branches (trees_of ys)) (sym c.as_slice.ensures.value) ∙ sym c.are_branches.ensures ∙ c.if-are_branches.true in
    subst (λ (x : Tree). Gives view (Adds old (IsOr root x)) (or_checks root x) c.read_branches.result) is
    (or_read view root xs old c.read_branches.result two c.read_branches.ensures)

pub read_or-returns-in-List : goal.read_or-returns-in-List
read_or-returns-in-List t c =
    let root = c.args.root in
    let xs = trees_of c.in-List.items.items in
    let is : list (items_of xs) ≡ tree_of c.args.value = sym (ap tree_of c.in-List.is ∙ tree_of_list c.in-List.items) in
    let none : are_branches xs ≡ false =
    ap (λ ys. are_branches (trees_of ys)) (sym c.as_slice.ensures.value) ∙ sym c.are_branches.ensures ∙ c.if-are_branches.false in
    subst (λ (x : Tree). IsReported (or_checks root x) c.of.result) is
    (subst (IsReported (or_checks root (list (items_of xs)))) (sym c.of.ensures) (no_or root xs none))
