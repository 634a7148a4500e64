use Rattle.std.proofs.Common.{List, ap, ◌∙◌, subst}
use Rattle.std.specs.List.{All, filter_map}
use Rattle.std.proofs.lemmas.List.Sorted.{All-permutation}
use Rattle.value_index.specs.declared.row.Row.{Row}
use Rattle.value_index.specs.Lengths.{IsListed}
use Rattle.value_index.specs.Rows.{key_in, range_in}
use Rattle.value_index.proofs.MakeLemmas.{rows_signed, entries_entered}
use Rattle.value_index.proofs.index.PathIndex.of.Goals as goal

pub invariant_of-result : goal.invariant_of-result
invariant_of-result c =
    let rows = c.in_ok-rows.rows.items in
    let sorted = c.sort.new.rows.items in
    let listed = λ (row : Row). IsListed c.in_ok-lengths.lengths (key_in row).length in
    record {
      sorted = c.sort.ensures.sorted;
      signed = rows_signed c.args.tests.items rows sorted c.in_ok-rows.ensures c.sort.ensures.moved;
      listed = All-permutation listed rows sorted c.sort.ensures.moved (subst (λ (l : List Row). All listed l) c.deref.ensures.value c.in_ok-lengths.ensures);
      ranged = c.in_ok-ranges.ensures ∙ ap (filter_map range_in) c.deref-2.ensures.value;
    }

pub returns : goal.returns
returns c = entries_entered c.args.tests.items c.in_ok-rows.rows.items c.sort.new.rows.items c.in_ok-rows.ensures c.sort.ensures.moved
