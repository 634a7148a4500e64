use Rattle.std.proofs.Common.{arith}
use Rattle.key_tree.proofs.BalanceLemmas.{avl_sides, shrunk_lower, only_upper}
use Rattle.key_tree.proofs.subtree.+take_first.Goals as goal

pub returns-in-Some-clause-balanced : goal.returns-in-Some-clause-balanced
returns-in-Some-clause-balanced g n c small avl =
    let s = avl_sides _ _ _ c.in-Full.is c.deref_mut.ensures.value avl in
    let size = s.size in
    shrunk_lower _ c.take_first.new.tree _ c.balance.new.top.value s small (c.in-Some.ensures.balanced (omega arith) s.lower) c.balance.ensures.balanced

pub returns-in-None-clause-balanced : goal.returns-in-None-clause-balanced
returns-in-None-clause-balanced g n c small avl =
    let s = avl_sides _ _ _ c.in-Full.is c.deref_mut.ensures.value avl in
    only_upper _ _ _ s c.in-None.ensures.first.0 c.take_lowest.ensures.upper
