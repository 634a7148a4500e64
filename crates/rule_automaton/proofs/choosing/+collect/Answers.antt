use Rattle.std.proofs.Common.{◌≡◌, ◌≢◌, length, map, ◌++◌, ◌∷◌, [], ap, sym, ◌∙◌, subst, arith}
use Rattle.std.specs.Prelude.{not}
use Rattle.std.proofs.lemmas.Bool.{eqb-false}
use Rattle.std.proofs.lemmas.Result.{IfOk-weaker}
use Rattle.pattern_meaning.specs.Pattern.{branches_of}
use Rattle.pattern_meaning.specs.PatternView.{pattern_of, field_of}
use Rattle.pattern_meaning.specs.Holds.{HoldsOnView, FieldHolds, BranchesHold}
use Rattle.rule_automaton.specs.AnchorView.{parts_of}
use Rattle.rule_automaton.specs.Anchors.{Adds}
use Rattle.rule_automaton.specs.Keys.{keys_of}
use Rattle.rule_automaton.proofs.AnchorLemmas.{adds_or, adds_field, branches_step, branches_end, not_true}
use Rattle.rule_automaton.proofs.KeyLemmas.{keys_key}
use Rattle.rule_automaton.specs.declared.keys.Keys.TheVariants as keys
use Rattle.rule_automaton.proofs.choosing.+collect.Goals as goal

pub add_pattern-returns-in-Branches : goal.add_pattern-returns-in-Branches
add_pattern-returns-in-Branches t c =
    let p = c.args.pattern.now in
    let bs = c.deref.result.now in
    let path = keys_of c.args.keys.now in
    let old = parts_of c.args.anchors.now.items in
    let new = parts_of c.add_branches.new.anchors.items in
    IfOk-weaker c.add_branches.result (Adds (BranchesHold (branches_of (map pattern_of bs))) path old new) (Adds (HoldsOnView (pattern_of p)) path old new)
    (λ found adds. adds_or p bs path old new found c.deref.ensures.value adds) c.add_branches.ensures

pub add_pattern-returns-in-Some : goal.add_pattern-returns-in-Some
add_pattern-returns-in-Some t c =
    let p = c.args.pattern.now in
    let f = c.in-Some.field-0.now in
    let path = keys_of c.args.keys.now in
    let below = keys_of (keys.Key c.as_str.result c.args.keys) in
    let old = parts_of c.args.anchors.now.items in
    let new = parts_of c.add_field.new.anchors.items in
    let under : below ≡ path ++ f.0 ∷ [] = keys_key c.as_str.result c.args.keys ∙ ap (λ k. path ++ k ∷ []) c.as_str.ensures in
    IfOk-weaker c.add_field.result (Adds (FieldHolds (field_of f.1)) below old new) (Adds (HoldsOnView (pattern_of p)) path old new)
    (λ found adds. adds_field p c.deref-in-Field.result.now c.in-Field.number f path below old new found c.deref-in-Field.ensures.value
    c.in-Some.ensures.lookup.3.0 c.in-Some.ensures.lookup.1 under adds)
    c.add_field.ensures

pub add_branches-loop-branch-preserved : goal.add_branches-loop-branch-preserved
add_branches-loop-branch-preserved t c =
    let p = c.branch-item.result in
    let path = keys_of c.args.keys.now in
    let new = parts_of c.loop-branch.anchors.items in
    let newer = parts_of c.add_pattern.new.anchors.items in
    branches_step c.args.branches.now c.loop-branch.branch-index p path (parts_of c.args.anchors.now.items) new newer c.loop-branch.invariant c.loop-branch-test.true
    c.branch-item.is (subst (Adds (HoldsOnView (pattern_of p)) path new newer) c.if-not-branch.false c.in_ok-add_pattern.ensures)

pub add_branches-returns : goal.add_branches-returns
add_branches-returns t c =
    branches_end c.args.branches.now c.loop-branch.branch-index (keys_of c.args.keys.now) (parts_of c.args.anchors.now.items) (parts_of c.loop-branch.anchors.items)
    (not c.is_empty.result) c.loop-branch.invariant c.loop-branch-test.false (λ sure.
    let apart : length c.args.branches.now ≢ 0 = eqb-false _ 0 (sym c.is_empty.ensures ∙ not_true c.is_empty.result sure) in omega (arith, apart))
