use Rattle.std.proofs.Common.{ap, arith}
use Rattle.key_tree.proofs.BalanceLemmas.{joined_sides}
use Rattle.key_tree.proofs.subtree.joined.Goals as goal

pub returns-in-Some-clause-balanced : goal.returns-in-Some-clause-balanced
returns-in-Some-clause-balanced g c small lower upper close =
    joined_sides c.args.lower c.deref_mut-in-Some.result.now.lower c.args.upper c.take_first.new.tree c.balance.new.top.value
    (ap (λ b. b.lower) c.deref_mut-in-Some.ensures.value) small lower upper close (c.in-Some.ensures.balanced (omega arith) upper) c.balance.ensures.balanced
