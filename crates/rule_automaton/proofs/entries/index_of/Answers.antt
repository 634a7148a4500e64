use Rattle.std.proofs.Common.{◌≡◌, ap, sym, subst}
use Rattle.std.specs.Prelude.{Contains}
use Rattle.std.proofs.lemmas.List.Sorted.{Contains-permutation, IsPermutation-sym}
use Rattle.value_index.specs.Index.{entered, entries_of}
use Rattle.rule_automaton.specs.Table.{entries_in}
use Rattle.rule_automaton.proofs.entries.index_of.Goals as goal

pub returns : goal.returns
returns c = λ e.
    let given = entered c.args.tests.items in
    let made = entries_of c.in_ok-made.made in
    let same : entries_in c.in_ok-index.index ≡ made = ap entries_of c.in_ok-index.ensures.ok in (
      λ h. Contains-permutation made given e (IsPermutation-sym given made c.in_ok-made.ensures) (subst (λ l. Contains l e) same h),
      λ h. subst (λ l. Contains l e) (sym same) (Contains-permutation given made e c.in_ok-made.ensures h),
    )
