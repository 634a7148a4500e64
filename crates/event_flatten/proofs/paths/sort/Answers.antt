use Rattle.std.proofs.Common.{◌≡◌, rules, of_calls, refl, sym, subst, IsSorted}
use Rattle.std.specs.List.{Contains, dedup}
use Rattle.std.specs.Ordering.{is_lt, eq_by_cmp}
use Rattle.std.proofs.lemmas.Cmp.{eq_by_cmp_equiv}
use Rattle.std.proofs.lemmas.Fn.{always_returns_same, dedup_same}
use Rattle.std.proofs.lemmas.List.Kept.{Contains-dedup, Contains-from_dedup, IsStrictlySortedBy-dedup}
use Rattle.std.proofs.lemmas.List.Sorted.{Contains-permutation, IsPermutation-sym, ranks_by}
use Rattle.std.proofs.lemmas.Map.Views.{tells_apart}
use Rattle.event_flatten.specs.Path.{path_cmp, AreAscending}
use Rattle.event_flatten.proofs.PathLemmas.{path_total, same_path, ascending_from_strict}
use Rattle.event_flatten.proofs.paths.sort.Goals as goal

pub returns-clause-same : goal.returns-clause-same
returns-clause-same c =
    let old = c.args.paths.now.items in
    let new = c.sort_unstable_by.new.self.items in
    let moved = c.sort_unstable_by.ensures.permutation in
    let kept : c.dedup_by.new.self.items ≡ dedup (eq_by_cmp path_cmp) new =
    dedup_same _ (eq_by_cmp path_cmp) _ (λ x y b f x' y' k. search (rules, of_calls)) _ _ c.dedup_by.ensures.filtered in
    λ path. (
      λ h. Contains-permutation new old path (IsPermutation-sym old new moved)
          (Contains-from_dedup (eq_by_cmp path_cmp) new path (subst (λ l. Contains l path) kept h)),
      λ h. subst (λ l. Contains l path) (sym kept)
          (Contains-dedup (eq_by_cmp_equiv path_total) (tells_apart same_path) new path (Contains-permutation old new path moved h)),
    )

pub returns-clause-ascending : goal.returns-clause-ascending
returns-clause-ascending c =
    let new = c.sort_unstable_by.new.self.items in
    let kept : c.dedup_by.new.self.items ≡ dedup (eq_by_cmp path_cmp) new =
    dedup_same _ (eq_by_cmp path_cmp) _ (λ x y b f x' y' k. search (rules, of_calls)) _ _ c.dedup_by.ensures.filtered in
    let sorted : IsSorted path_cmp new =
    c.sort_unstable_by.ensures.sorted (λ x y. is_lt (path_cmp x y)) (ranks_by path_total (λ x. x)) (always_returns_same _ _ _ (λ a r f k. search (rules, of_calls))) in
    subst AreAscending (sym kept) (ascending_from_strict (dedup (eq_by_cmp path_cmp) new) (IsStrictlySortedBy-dedup path_total (λ x y. refl) new sorted))
