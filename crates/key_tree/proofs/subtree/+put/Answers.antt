use Rattle.std.proofs.Common.{◌<◌, rules, ap, ◌∙◌, arith}
use Rattle.key_tree.specs.Subtree.{entry_of}
use Rattle.key_tree.proofs.TreeLemmas.{sides, new_sides, put_lower, put_upper}
use Rattle.key_tree.proofs.BalanceLemmas.{avl_sides, grown_lower, grown_upper}
use Rattle.key_tree.proofs.subtree.+put.Goals as goal

pub put-requires : goal.put-requires
put-requires g n c κs within =
    let t = sides _ _ _ c.in-Full.is c.requires.sorted c.deref_mut.ensures.value in
    let size = t.size in
    (search rules, (within, (t.parts.front, (c.requires.leaf, (new_sides _ _ _ t c.requires.new_key).0))))

pub put-requires-else-deref : goal.put-requires-else-deref
put-requires-else-deref g n c κs within =
    let t = sides _ _ _ c.in-Full.is c.requires.sorted c.deref_mut-else-deref.ensures.value in
    let size = t.size in
    (search rules, (within, (t.parts.back, (c.requires.leaf, (new_sides _ _ _ t c.requires.new_key).2))))

pub returns-then-deref-clause-entries : goal.returns-then-deref-clause-entries
returns-then-deref-clause-entries g n c =
    let t = sides _ _ _ c.in-Full.is c.requires.sorted c.deref_mut.ensures.value in
    let h : c.args.leaf.value.key < c.deref_mut.result.now.key =
    omega (arith, ap (λ b. b.key) c.deref.ensures, ap (λ b. b.key) c.deref-in-Full.ensures, ap (λ b. b.key) c.deref_mut.ensures.value) in
    c.balance.ensures.entries ∙ put_lower (entry_of c.args.leaf.value) _ c.put.new.tree _ t h c.put.ensures.entries

pub returns-else-deref-clause-entries : goal.returns-else-deref-clause-entries
returns-else-deref-clause-entries g n c =
    let t = sides _ _ _ c.in-Full.is c.requires.sorted c.deref_mut-else-deref.ensures.value in
    let ne = (new_sides _ _ _ t c.requires.new_key).1 in
    let h : c.deref_mut-else-deref.result.now.key < c.args.leaf.value.key =
    omega (arith, ap (λ b. b.key) c.deref.ensures, ap (λ b. b.key) c.deref-in-Full.ensures, ap (λ b. b.key) c.deref_mut-else-deref.ensures.value) in
    c.balance-else-deref.ensures.entries ∙ put_upper (entry_of c.args.leaf.value) _ c.put-else-deref.new.tree _ t h c.put-else-deref.ensures.entries

pub returns-then-deref-clause-balanced : goal.returns-then-deref-clause-balanced
returns-then-deref-clause-balanced g n c small avl =
    let s = avl_sides _ _ _ c.in-Full.is c.deref_mut.ensures.value avl in
    let size = s.size in
    grown_lower _ c.put.new.tree _ c.balance.new.top.value s small (c.put.ensures.balanced (omega arith) s.lower) c.balance.ensures.balanced

pub returns-else-deref-clause-balanced : goal.returns-else-deref-clause-balanced
returns-else-deref-clause-balanced g n c small avl =
    let s = avl_sides _ _ _ c.in-Full.is c.deref_mut-else-deref.ensures.value avl in
    let size = s.size in
    grown_upper _ c.put-else-deref.new.tree _ c.balance-else-deref.new.top.value s small (c.put-else-deref.ensures.balanced (omega arith) s.upper) c.balance-else-deref.ensures.balanced
