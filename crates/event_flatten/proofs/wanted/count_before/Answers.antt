use Rattle.std.proofs.Common.{◌≡◌, true, false, rules, of_calls, drop}
use Rattle.std.proofs.lemmas.List.Sorted.{IsPartitionPoint-from_clause}
use Rattle.event_flatten.specs.Walk.{is_before}
use Rattle.event_flatten.proofs.PathLemmas.{partitioned_before, All-take_within, All-drop_within}
use Rattle.event_flatten.proofs.wanted.count_before.Goals as goal

pub returns-clause-before : goal.returns-clause-before
returns-clause-before c =
    let key = c.args.key.now in
    let depth = c.args.depth in
    let point = IsPartitionPoint-from_clause (λ path. is_before key (drop depth path)) _ _ c.partition_point.ensures.partitioned
    (partitioned_before key depth c.args.paths.now c.requires) (λ a r q k. search (rules, of_calls)) in
    All-take_within (λ path. is_before key (drop depth path) ≡ true) c.args.paths.now c.partition_point.result point.0

pub returns-clause-rest : goal.returns-clause-rest
returns-clause-rest c =
    let key = c.args.key.now in
    let depth = c.args.depth in
    let point = IsPartitionPoint-from_clause (λ path. is_before key (drop depth path)) _ _ c.partition_point.ensures.partitioned
    (partitioned_before key depth c.args.paths.now c.requires) (λ a r q k. search (rules, of_calls)) in
    All-drop_within (λ path. is_before key (drop depth path) ≡ false) c.args.paths.now c.partition_point.result point.1
