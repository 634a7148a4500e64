use Rattle.std.proofs.Common.{◌≡◌, true, false, rules, of_calls, drop}
use Rattle.std.proofs.lemmas.List.Sorted.{IsPartitionPoint-from_clause}
use Rattle.event_flatten.specs.Walk.{begins}
use Rattle.event_flatten.proofs.PathLemmas.{partitioned_same, All-take_within, All-drop_within}
use Rattle.event_flatten.proofs.wanted.count_same.Goals as goal

pub returns-clause-same : goal.returns-clause-same
returns-clause-same c =
    let key = c.args.key.now in
    let depth = c.args.depth in
    let point = IsPartitionPoint-from_clause (λ path. begins key (drop depth path)) _ _ c.partition_point.ensures.partitioned
    (partitioned_same key depth c.args.paths.now c.requires.ascending c.requires.none_before) (λ a r q k. search (rules, of_calls)) in
    All-take_within (λ path. begins key (drop depth path) ≡ true) c.args.paths.now c.partition_point.result point.0

pub returns-clause-rest : goal.returns-clause-rest
returns-clause-rest c =
    let key = c.args.key.now in
    let depth = c.args.depth in
    let point = IsPartitionPoint-from_clause (λ path. begins key (drop depth path)) _ _ c.partition_point.ensures.partitioned
    (partitioned_same key depth c.args.paths.now c.requires.ascending c.requires.none_before) (λ a r q k. search (rules, of_calls)) in
    All-drop_within (λ path. begins key (drop depth path) ≡ false) c.args.paths.now c.partition_point.result point.1
