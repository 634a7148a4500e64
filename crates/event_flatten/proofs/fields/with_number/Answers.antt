use Rattle.std.proofs.Common.{◌≡◌, ◌<◌, ◌≤◌, ◌-◌, ltb, leb, rules, of_calls, drop, take, length, arith, ap, subst, ◌∙◌}
use Rattle.std.specs.Prelude.{All}
use Rattle.std.proofs.lemmas.Bool.{ltb-true, ltb-false, leb-true, leb-false}
use Rattle.std.proofs.lemmas.List.Sorted.{IsPartitionPoint-from_clause, IsPartitionedBy-ltb, IsPartitionedBy-leb, IsNonDecreasingBy-drop}
use Rattle.std.proofs.lemmas.List.{take_rest}
use Rattle.std.proofs.lemmas.List.Elements.{All-take}
use Rattle.event_flatten.specs.declared.leaf.Leaf.{Leaf}
use Rattle.event_flatten.proofs.PathLemmas.{All-take_within, All-drop_within}
use Rattle.event_flatten.proofs.FieldLemmas.{number_found}
use Rattle.event_flatten.proofs.fields.with_number.Goals as goal

pub returns : goal.returns
returns c =
    let leaves = c.args.leaves.now in
    let n = c.args.number in
    let from = c.partition_point-from.result in
    let count = c.partition_point-count.result in
    let rest = take (length leaves - from) (drop from leaves) in
    let same : rest ≡ drop from leaves = take_rest leaves from in
    let first = IsPartitionPoint-from_clause (λ leaf. ltb leaf.number n) leaves from c.partition_point-from.ensures.partitioned
    (IsPartitionedBy-ltb (λ leaf. leaf.number) leaves n c.requires) (λ a r q k. search (rules, of_calls)) in
    let second = IsPartitionPoint-from_clause (λ leaf. leb leaf.number n) rest count c.partition_point-count.ensures.partitioned
    (IsPartitionedBy-leb (λ leaf. leaf.number) rest n (rw same (IsNonDecreasingBy-drop (λ leaf. leaf.number) from leaves c.requires))) (λ a r q k. search (rules, of_calls)) in
    let before : All (λ (leaf : Leaf). leaf.number < n) (take from leaves) =
    All-take_within (λ leaf. leaf.number < n) leaves from (λ k d low high. ltb-true _ _ (first.0 k d low high)) in
    let low : All (λ (leaf : Leaf). n ≤ leaf.number) (take count (drop from leaves)) =
    All-take (λ (leaf : Leaf). n ≤ leaf.number) count (drop from leaves)
    (All-drop_within (λ leaf. n ≤ leaf.number) leaves from (λ k d low high. ltb-false _ _ (first.1 k d low high))) in
    let high : All (λ (leaf : Leaf). leaf.number ≤ n) (take count (drop from leaves)) =
    subst (λ (r : _). All (λ (leaf : Leaf). leaf.number ≤ n) (take count r)) same
    (All-take_within (λ leaf. leaf.number ≤ n) rest count (λ k d low high. leb-true _ _ (second.0 k d low high))) in
    let later : All (λ (leaf : Leaf). n < leaf.number) (drop count (drop from leaves)) =
    subst (λ (r : _). All (λ (leaf : Leaf). n < leaf.number) (drop count r)) same
    (All-drop_within (λ leaf. n < leaf.number) rest count (λ k d low high. leb-false _ _ (second.1 k d low high))) in
    ap (take count) same ∙ number_found n from count leaves before (λ k d h. omega (arith, low k d h, high k d h)) later
