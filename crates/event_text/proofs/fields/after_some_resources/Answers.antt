use Rattle.std.proofs.Common.{[], ◌∷◌, ◌++◌, map, subst, arith}
use Rattle.json_text.specs.Tree.{text}
use Rattle.event_text.specs.Written.{BeginsItems}
use Rattle.event_text.proofs.TextLemmas.{cut_1, cut_2, left_after}
use Rattle.event_text.proofs.ListLemmas.{one_text, another_text}
use Rattle.event_text.proofs.fields.after_some_resources.Goals as goal

pub loop-left-init : goal.loop-left-init
loop-left-init c =
    let t = c.in_ok-left.ensures.text in
    (t.0, [], one_text t.0 c.args.bytes.now c.in_ok-left.left.now t.1)

pub loop-left-preserved : goal.loop-left-preserved
loop-left-preserved c =
    let left = c.loop-left.left.now in
    let so_far = c.loop-left.invariant in
    let next = c.in_ok-left-2.ensures.text in (
      so_far.0,
      so_far.1 ++ next.0 ∷ [],
      another_text so_far.0 next.0 so_far.1 (34 ∷ c.args.bytes.now) left _ c.in_ok-left-2.left.now so_far.2
          (left_after left 2 (44 ∷ 34 ∷ []) (cut_2 left 44 34 c.in-44.len_at_least (omega arith) (omega arith))) next.1,
    )

pub returns-in-93 : goal.returns-in-93
returns-in-93 c =
    let left = c.loop-left.left.now in
    let (t, ts, items) = c.loop-left.invariant in
    (t ∷ ts, subst (BeginsItems 0 (map text (t ∷ ts)) (34 ∷ c.args.bytes.now)) (left_after left 1 (93 ∷ []) (cut_1 left 93 c.in-93.len_at_least (omega arith))) items)
