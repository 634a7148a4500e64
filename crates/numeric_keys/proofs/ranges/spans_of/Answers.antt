use Rattle.std.proofs.Common.{◌≡◌, ◌+◌, ◌-◌, ◌*◌, length, arith, ap, ◌∙◌}
use Rattle.std.proofs.lemmas.List.{length-set}
use Rattle.numeric_keys.specs.RangeTree.{node_span, EnclosesFrom}
use Rattle.numeric_keys.proofs.RangeLemmas.{enclosed_more}
use Rattle.numeric_keys.proofs.ranges.spans_of.Goals as goal

pub loop-node-preserved : goal.loop-node-preserved
loop-node-preserved c =
    let spans = c.loop-node.spans.items in
    let ranges = c.args.ranges.now in
    let nodes : length spans ≡ length ranges = c.loop-node.invariant.0 in
    let left : c.span_at-left.result ≡ node_span ranges spans (2 * (c.loop-node.node - 1)) =
    c.span_at-left.ensures
    ∙ ap (λ s. node_span ranges s (2 * (c.loop-node.node - 1))) c.deref.ensures.value in
    let right : c.span_at-right.result ≡ node_span ranges spans (2 * (c.loop-node.node - 1) + 1) =
    c.span_at-right.ensures
    ∙ ap (λ s. node_span ranges s
    (2 * (c.loop-node.node - 1) + 1)) c.deref-in-loop-node.ensures.value in
    let next : c.loop-node.node - 1 + 1 ≡ c.loop-node.node = omega arith in
    let later : EnclosesFrom ranges spans (c.loop-node.node - 1 + 1) =
    rw next c.loop-node.invariant.1 in (
      length-set spans (c.loop-node.node - 1) c.joined.result ∙ nodes,
      enclosed_more ranges spans (c.loop-node.node - 1) c.joined.result (omega arith)
          (omega arith) nodes later
          (rw (← left) c.joined.ensures.first) (rw (← right) c.joined.ensures.second),
    )
