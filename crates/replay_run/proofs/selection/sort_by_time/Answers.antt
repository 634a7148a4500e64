use Rattle.std.proofs.Common.{rules, sym, subst}
use Rattle.std.proofs.lemmas.List.Sorted.{answers_always, IsNonDecreasingBy-from_sort_by_key}
use Rattle.replay_run.specs.Selection.{AreByTime}
use Rattle.replay_run.proofs.SelectionLemmas.{time_of, by_time_same, sorted_by}
use Rattle.replay_run.proofs.selection.sort_by_time.Goals as goal

pub returns-then-are_by_time : goal.returns-then-are_by_time
returns-then-are_by_time c =
    sym (by_time_same c.args.events.now.items (subst AreByTime c.deref.ensures.value (c.are_by_time.ensures c.if-are_by_time.true)))

pub returns : goal.returns
returns c =
    sorted_by c.args.events.now.items c.sort_by_key.new.self.items
    (IsNonDecreasingBy-from_sort_by_key time_of _ c.in_ok-sort_by_key.ensures.sorted (λ a r q k. search rules))
    (c.sort_by_key.ensures.stable time_of (answers_always _ _ _ (λ f a r g h. search rules)))
