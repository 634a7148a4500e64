use Rattle.std.proofs.Common.{rules, of_calls, arith, ◌+◌}
use Rattle.std.specs.Arc.{arc_value}
use Rattle.std.proofs.lemmas.Fn.{always_returns_same}
use Rattle.name_rows.specs.Blocks.{starts_by}
use Rattle.name_rows.proofs.SearchLemmas.{partitioned, blocks_smaller_at, blocks_greater}
use Rattle.name_rows.proofs.place.block_of.Goals as goal

pub returns-clause-smaller : goal.returns-clause-smaller
returns-clause-smaller g c =
    let name_of = g.R.Row.name_of in
    let name = c.args.name.now in
    let blocks = c.args.blocks.now in
    let point = c.partition_point-count.ensures.partitioned (λ block. starts_by name_of name (arc_value block))
    (always_returns_same _ _ _ (λ a r h called. search (rules, of_calls)))
    (partitioned name_of name arc_value blocks c.requires.full c.requires.sorted) in
    blocks_smaller_at name_of name arc_value blocks c.saturating_sub.result c.partition_point-count.result c.requires.full c.requires.sorted
    c.partition_point-count.ensures.bound (omega arith) point.0

pub returns-clause-greater : goal.returns-clause-greater
returns-clause-greater g c =
    let name_of = g.R.Row.name_of in
    let name = c.args.name.now in
    let blocks = c.args.blocks.now in
    let point = c.partition_point-count.ensures.partitioned (λ block. starts_by name_of name (arc_value block))
    (always_returns_same _ _ _ (λ a r h called. search (rules, of_calls)))
    (partitioned name_of name arc_value blocks c.requires.full c.requires.sorted) in
    blocks_greater name_of name arc_value blocks (c.saturating_sub.result + 1) c.requires.full
    (λ k d from to. point.1 k d (omega (arith, from)) to)
