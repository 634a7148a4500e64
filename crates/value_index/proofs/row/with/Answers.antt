use Rattle.std.proofs.Common.{◌≡◌, ◌<◌, ◌≤◌, ◌-◌, ltb, leb, rules, of_calls, drop, take, length, arith, ap, subst, ◌∙◌}
use Rattle.std.specs.Prelude.{All}
use Rattle.std.proofs.lemmas.Bool.{ltb-true, ltb-false, leb-true, leb-false}
use Rattle.std.proofs.lemmas.List.Sorted.{IsPartitionPoint-from_clause, IsPartitionedBy-ltb, IsPartitionedBy-leb, IsNonDecreasingBy-drop}
use Rattle.std.proofs.lemmas.List.{take_rest}
use Rattle.std.proofs.lemmas.List.Elements.{All-take}
use Rattle.value_index.specs.declared.row.Row.{Row}
use Rattle.value_index.proofs.TableLemmas.{All-take_within, All-drop_within, keyed_between}
use Rattle.value_index.proofs.row.with.Goals as goal

pub returns : goal.returns
returns c =
    let rows = c.args.rows.now in
    let n = c.args.signature in
    let from = c.partition_point-from.result in
    let count = c.partition_point-count.result in
    let rest = take (length rows - from) (drop from rows) in
    let same : rest ≡ drop from rows = take_rest rows from in
    let first = IsPartitionPoint-from_clause (λ row. ltb row.signature n) rows from c.partition_point-from.ensures.partitioned
    (IsPartitionedBy-ltb (λ row. row.signature) rows n c.requires) (λ a r q k. search (rules, of_calls)) in
    let second = IsPartitionPoint-from_clause (λ row. leb row.signature n) rest count c.partition_point-count.ensures.partitioned
    (IsPartitionedBy-leb (λ row. row.signature) rest n (rw same (IsNonDecreasingBy-drop (λ row. row.signature) from rows c.requires))) (λ a r q k. search (rules, of_calls)) in
    let before : All (λ (row : Row). row.signature < n) (take from rows) =
    All-take_within (λ row. row.signature < n) rows from (λ k d low high. ltb-true _ _ (first.0 k d low high)) in
    let low : All (λ (row : Row). n ≤ row.signature) (take count (drop from rows)) =
    All-take (λ (row : Row). n ≤ row.signature) count (drop from rows)
    (All-drop_within (λ row. n ≤ row.signature) rows from (λ k d low high. ltb-false _ _ (first.1 k d low high))) in
    let high : All (λ (row : Row). row.signature ≤ n) (take count (drop from rows)) =
    subst (λ (r : _). All (λ (row : Row). row.signature ≤ n) (take count r)) same
    (All-take_within (λ row. row.signature ≤ n) rest count (λ k d low high. leb-true _ _ (second.0 k d low high))) in
    let later : All (λ (row : Row). n < row.signature) (drop count (drop from rows)) =
    subst (λ (r : _). All (λ (row : Row). n < row.signature) (drop count r)) same
    (All-drop_within (λ row. n < row.signature) rest count (λ k d low high. leb-false _ _ (second.1 k d low high))) in
    ap (take count) same ∙ keyed_between (λ row. row.signature) n from count rows before (λ k d h. omega (arith, low k d h, high k d h)) later
