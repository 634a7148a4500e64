use Rattle.std.proofs.Common.{◌++◌, ◌∷◌, [], ◌∙◌, ap, sym, drop}
use Rattle.std.proofs.Math.ListN.{drop_of_length-le}
use Rattle.std.proofs.lemmas.Result.{on_ok_weaker}
use Rattle.json_text.specs.{View.tree_of, View.trees_of, View.pairs_of, Tree.items_of, Tree.members_of, Tree.null, Tree.truth, Tree.number, Tree.list, Tree.object}
use Rattle.json_text.specs.Compact.{quoted, items_text, members_text}
use Rattle.json_text.proofs.CompactLemmas.{items_left_none, members_left_none, closed}
use Rattle.json_text.proofs.ViewLemmas.{tree_of_null, tree_of_truth, tree_of_number, tree_of_list, tree_of_object}
use Rattle.input_transform.specs.Letters.{shown, steps_of}
use Rattle.input_transform.proofs.FlatLemmas.{backs, pairs_back, items_back_of, members_back_of, items_step, members_step, becomes}
use Rattle.input_transform.proofs.flat.+push_value.Goals as goal

pub items-preserved : goal.items-preserved
items-preserved t c scene =
    let steps = steps_of c.args.paths.now in
    items_step c.args.paths.now scene c.deref-item-items.result.now c.items.i c.item-item.result (shown scene steps c.items.out) (shown scene steps c.push_comma.new.out)
    (shown scene steps c.push_value.new.out) _ c.items-test.true c.item-item.is (c.items.invariant scene) (c.in_ok-push_comma-in-List.ensures scene steps)
    (c.in_ok-push_value-in-List.ensures scene)

pub members-preserved : goal.members-preserved
members-preserved t c scene =
    let steps = steps_of c.args.paths.now in
    let key = c.as_bytes-in-members.ensures.value ∙ c.as_str-in-members.ensures in
    members_step c.args.paths.now scene c.deref-member-items.result.now c.members.i c.member-item.result (shown scene steps c.members.out)
    (shown scene steps c.push_comma-in-members.new.out) (shown scene steps c.push_key.new.out) (shown scene steps c.push_value-in-members.new.out) _ c.members-test.true
    c.member-item.is (c.members.invariant scene) (c.in_ok-push_comma-in-Obj.ensures scene steps)
    (c.in_ok-push_key-in-Obj.ensures scene steps ∙ ap (λ k. shown scene steps c.push_comma-in-members.new.out ++ (quoted (drop 1 k) ++ 58 ∷ [])) key)
    (c.in_ok-push_value-in-Obj.ensures scene)

pub returns-in-Null : goal.returns-in-Null
returns-in-Null t c = on_ok_weaker c.push_bytes.result (λ h scene. h scene (steps_of c.args.paths.now)
    ∙ becomes c.args.paths.now scene (shown scene (steps_of c.args.paths.now) c.args.out.now) c.args.json.now null (ap tree_of c.in-Null.is ∙ tree_of_null)) c.push_bytes.ensures

pub returns-in-Truth : goal.returns-in-Truth
returns-in-Truth t c = on_ok_weaker c.push_bytes-in-Truth.result (λ h scene. h scene (steps_of c.args.paths.now)
    ∙ ap (λ x. shown scene (steps_of c.args.paths.now) c.args.out.now ++ x) c.word_of.ensures
    ∙ becomes c.args.paths.now scene (shown scene (steps_of c.args.paths.now) c.args.out.now) c.args.json.now (truth c.in-Truth.value)
    (ap tree_of c.in-Truth.is ∙ tree_of_truth c.in-Truth.value)) c.push_bytes-in-Truth.ensures

pub returns-in-Num : goal.returns-in-Num
returns-in-Num t c = on_ok_weaker c.push_bytes-in-Num.result (λ h scene. h scene (steps_of c.args.paths.now)
    ∙ ap (λ x. shown scene (steps_of c.args.paths.now) c.args.out.now ++ x) (c.as_bytes.ensures.value ∙ c.as_str.ensures)
    ∙ becomes c.args.paths.now scene (shown scene (steps_of c.args.paths.now) c.args.out.now) c.args.json.now (number c.in-Num.spelling)
    (ap tree_of c.in-Num.is ∙ tree_of_number c.in-Num.spelling)) c.push_bytes-in-Num.ensures

pub returns-after-items : goal.returns-after-items
returns-after-items t c = on_ok_weaker c.push_bytes-in-List-2.result (λ h scene.
    let steps = steps_of c.args.paths.now in
    let old = shown scene steps c.args.out.now in
    let all = backs c.args.paths.now scene (trees_of c.deref-item-items.result.now) in
    h scene steps
    ∙ closed old (shown scene steps c.items.out) (items_text (items_of all)) _ 91 93
    (items_left_none c.items.i _ (ap (λ js. backs c.args.paths.now scene (trees_of js)) (drop_of_length-le c.deref-item-items.result.now c.items-test.false)))
    (c.items.invariant scene ∙ ap (λ x. x ++ items_text (items_of all)) (c.in_ok-push_bytes-in-List.ensures scene steps))
    ∙ ap (λ js. old ++ 91 ∷ (items_text (items_of (backs c.args.paths.now scene (trees_of js))) ++ 93 ∷ [])) c.deref-item-items.ensures.value
    ∙ ap (λ is. old ++ 91 ∷ (items_text is ++ 93 ∷ [])) (sym (items_back_of c.args.paths.now scene (trees_of c.in-List.items.items)))
    ∙ becomes c.args.paths.now scene old c.args.json.now (list (items_of (trees_of c.in-List.items.items))) (ap tree_of c.in-List.is ∙ tree_of_list c.in-List.items))
    c.push_bytes-in-List-2.ensures

pub returns-after-members : goal.returns-after-members
returns-after-members t c = on_ok_weaker c.push_bytes-in-Obj-2.result (λ h scene.
    let steps = steps_of c.args.paths.now in
    let old = shown scene steps c.args.out.now in
    let all = pairs_back c.args.paths.now scene (pairs_of c.deref-member-items.result.now) in
    h scene steps
    ∙ closed old (shown scene steps c.members.out) (members_text (members_of all)) _ 123 125
    (members_left_none c.members.i _ (ap (λ ms. pairs_back c.args.paths.now scene (pairs_of ms)) (drop_of_length-le c.deref-member-items.result.now c.members-test.false)))
    (c.members.invariant scene ∙ ap (λ x. x ++ members_text (members_of all)) (c.in_ok-push_bytes-in-Obj.ensures scene steps))
    ∙ ap (λ ms. old ++ 123 ∷ (members_text (members_of (pairs_back c.args.paths.now scene (pairs_of ms))) ++ 125 ∷ [])) c.deref-member-items.ensures.value
    ∙ ap (λ ms. old ++ 123 ∷ (members_text ms ++ 125 ∷ [])) (sym (members_back_of c.args.paths.now scene (pairs_of c.in-Obj.members.items)))
    ∙ becomes c.args.paths.now scene old c.args.json.now (object (members_of (pairs_of c.in-Obj.members.items))) (ap tree_of c.in-Obj.is ∙ tree_of_object c.in-Obj.members))
    c.push_bytes-in-Obj-2.ensures
