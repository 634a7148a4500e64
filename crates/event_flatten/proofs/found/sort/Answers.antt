use Rattle.std.proofs.Common.{rules, of_calls}
use Rattle.std.proofs.lemmas.Fn.{always_returns_same}
use Rattle.event_flatten.proofs.FieldLemmas.{pair_of, sorted_pairs, same_filtered}
use Rattle.event_flatten.proofs.found.sort.Goals as goal

pub returns-clause-sorted : goal.returns-clause-sorted
returns-clause-sorted c =
    let up = c.sort_unstable_by_key.ensures.sorted pair_of (always_returns_same _ _ _ (λ a r f k. search (rules, of_calls))) in
    λ i j d le within. (sorted_pairs c.sort_unstable_by_key.new.self.items up i j d le within).0

pub returns-clause-same : goal.returns-clause-same
returns-clause-same c =
    let up = c.sort_unstable_by_key.ensures.sorted pair_of (always_returns_same _ _ _ (λ a r f k. search (rules, of_calls))) in
    λ n. same_filtered c.args.leaves.now.items c.sort_unstable_by_key.new.self.items n c.requires c.sort_unstable_by_key.ensures.permutation up
