use Rattle.std.proofs.Common.{◌++◌, ◌∷◌, [], take, length, sym, ap, ◌∙◌}
use Rattle.std.proofs.{Math.ListN.drop_of_length-le, lemmas.Result.on_ok_weaker}
use Rattle.json_text.specs.{View.tree_of, View.trees_of, View.pairs_of, Tree.items_of, Tree.members_of}
use Rattle.json_text.specs.Compact.{compact_text, items_text, members_text}
use Rattle.json_text.proofs.CompactLemmas.{kept_after, kept_further, items_left_none, members_left_none, closed}
use Rattle.json_text.proofs.ViewLemmas.{tree_of_list, tree_of_object}
use Rattle.json_text.proofs.compact.+push_value.Goals.{then-i-gt0+in_ok-extend-in-List-2, else-i-gt0, then-i-gt0-2+in_ok-extend-in-Obj-2, else-i-gt0-2}
use Rattle.json_text.proofs.compact.+push_value.Goals as goal

pub returns-in_err-push_value-in-List-clause-kept : goal.returns-in_err-push_value-in-List-clause-kept
returns-in_err-push_value-in-List-clause-kept t c = kept_further c.args.out.now c.if-i-gt0.out c.push_value.new.out (elim c.if-i-gt0.branch [
  | then-i-gt0+in_ok-extend-in-List-2 w ↦ kept_after c.args.out.now c.items.out _ c.if-i-gt0.out c.items.invariant.kept
      (w.out-is ∙ w.in_ok-extend-in-List-2.ensures.ok)
  | else-i-gt0 w ↦ ap (take (length c.args.out.now)) w.out-is ∙ c.items.invariant.kept
]) c.push_value.ensures.kept

pub returns-in_err-push_quoted-in-Obj-clause-kept : goal.returns-in_err-push_quoted-in-Obj-clause-kept
returns-in_err-push_quoted-in-Obj-clause-kept t c = kept_further c.args.out.now c.if-i-gt0-2.out c.push_quoted-in-members.new.out (elim c.if-i-gt0-2.branch [
  | then-i-gt0-2+in_ok-extend-in-Obj-2 w ↦ kept_after c.args.out.now c.members.out _ c.if-i-gt0-2.out c.members.invariant.kept
      (w.out-is ∙ w.in_ok-extend-in-Obj-2.ensures.ok)
  | else-i-gt0-2 w ↦ ap (take (length c.args.out.now)) w.out-is ∙ c.members.invariant.kept
]) c.push_quoted-in-members.ensures.kept

pub returns-in_err-push_value-in-Obj-clause-kept : goal.returns-in_err-push_value-in-Obj-clause-kept
returns-in_err-push_value-in-Obj-clause-kept t c = kept_further c.args.out.now c.extend-in-members.new.self c.push_value-in-members.new.out
    (kept_after c.args.out.now c.push_quoted-in-members.new.out _ c.extend-in-members.new.self
    (kept_further c.args.out.now c.if-i-gt0-2.out c.push_quoted-in-members.new.out (elim c.if-i-gt0-2.branch [
      | then-i-gt0-2+in_ok-extend-in-Obj-2 w ↦ kept_after c.args.out.now c.members.out _ c.if-i-gt0-2.out c.members.invariant.kept
          (w.out-is ∙ w.in_ok-extend-in-Obj-2.ensures.ok)
      | else-i-gt0-2 w ↦ ap (take (length c.args.out.now)) w.out-is ∙ c.members.invariant.kept
    ]) c.push_quoted-in-members.ensures.kept) c.in_ok-extend-in-Obj-3.ensures.ok) c.push_value-in-members.ensures.kept

pub returns-after-items-clause-ok : goal.returns-after-items-clause-ok
returns-after-items-clause-ok t c = on_ok_weaker c.extend-in-List-2.result
    (λ e. e ∙ closed c.args.out.now c.items.out (items_text (items_of (trees_of c.deref-item-items.result.now))) _ 91 93
    (items_left_none c.items.i _ (ap trees_of (drop_of_length-le c.deref-item-items.result.now c.items-test.false)))
    (c.items.invariant.whole ∙ ap (λ t. t ++ items_text (items_of (trees_of c.deref-item-items.result.now))) c.in_ok-extend-in-List.ensures.ok)
    ∙ ap (λ js. c.args.out.now ++ 91 ∷ (items_text (items_of (trees_of js)) ++ 93 ∷ [])) c.deref-item-items.ensures.value
    ∙ ap (λ t. c.args.out.now ++ compact_text t) (sym (ap tree_of c.in-List.is ∙ tree_of_list c.in-List.items))) c.extend-in-List-2.ensures.ok

pub returns-after-members-clause-ok : goal.returns-after-members-clause-ok
returns-after-members-clause-ok t c = on_ok_weaker c.extend-in-Obj-2.result
    (λ e. e ∙ closed c.args.out.now c.members.out (members_text (members_of (pairs_of c.deref-key-items.result.now))) _ 123 125
    (members_left_none c.members.i _ (ap pairs_of (drop_of_length-le c.deref-key-items.result.now c.members-test.false)))
    (c.members.invariant.whole ∙ ap (λ t. t ++ members_text (members_of (pairs_of c.deref-key-items.result.now))) c.in_ok-extend-in-Obj.ensures.ok)
    ∙ ap (λ ms. c.args.out.now ++ 123 ∷ (members_text (members_of (pairs_of ms)) ++ 125 ∷ [])) c.deref-key-items.ensures.value
    ∙ ap (λ t. c.args.out.now ++ compact_text t) (sym (ap tree_of c.in-Obj.is ∙ tree_of_object c.in-Obj.members))) c.extend-in-Obj-2.ensures.ok
