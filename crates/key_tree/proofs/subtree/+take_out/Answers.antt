use Rattle.std.proofs.Common.{◌≡◌, ◌<◌, None, Some, MatchOption, rules, refl, ap, sym, ◌∙◌, subst, arith}
use Rattle.key_tree.specs.Subtree.{IsLeaf}
use Rattle.key_tree.proofs.TreeLemmas.{sides, value_lower, value_upper, left_lower, left_upper, top_found, top_left}
use Rattle.key_tree.proofs.BalanceLemmas.{avl_sides, shrunk_lower, shrunk_upper}
use Rattle.key_tree.proofs.subtree.+take_out.Goals as goal

pub take_out-found-requires : goal.take_out-found-requires
take_out-found-requires g n c κs within =
    let t = sides _ _ _ c.in-Full.is c.requires c.deref_mut.ensures.value in
    let size = t.size in
    (search rules, (within, t.parts.front))

pub take_out-found-requires-then-deref-key : goal.take_out-found-requires-then-deref-key
take_out-found-requires-then-deref-key g n c κs within =
    let t = sides _ _ _ c.in-Full.is c.requires c.deref_mut-then-deref-key.ensures.value in
    let size = t.size in
    (search rules, (within, t.parts.back))

pub returns-then-key-deref-clause-found : goal.returns-then-key-deref-clause-found
returns-then-key-deref-clause-found g n c =
    let t = sides _ _ _ c.in-Full.is c.requires c.deref_mut.ensures.value in
    let h : c.args.key < c.deref_mut.result.now.key = omega (arith, ap (λ b. b.key) c.deref.ensures, ap (λ b. b.key) c.deref_mut.ensures.value) in
    subst (λ o. MatchOption c.take_out-found.result (o ≡ None) (λ leaf. IsLeaf leaf.value × (o ≡ Some leaf.value.value)))
    (sym (value_lower c.args.key _ _ t h)) c.take_out-found.ensures.found

pub returns-then-key-deref-clause-left : goal.returns-then-key-deref-clause-left
returns-then-key-deref-clause-left g n c =
    let t = sides _ _ _ c.in-Full.is c.requires c.deref_mut.ensures.value in
    let h : c.args.key < c.deref_mut.result.now.key = omega (arith, ap (λ b. b.key) c.deref.ensures, ap (λ b. b.key) c.deref_mut.ensures.value) in
    c.balance.ensures.entries ∙ left_lower c.args.key _ c.take_out-found.new.tree _ t h c.take_out-found.ensures.left

pub returns-then-deref-key-clause-found : goal.returns-then-deref-key-clause-found
returns-then-deref-key-clause-found g n c =
    let t = sides _ _ _ c.in-Full.is c.requires c.deref_mut-then-deref-key.ensures.value in
    let h : c.deref_mut-then-deref-key.result.now.key < c.args.key =
    omega (arith, ap (λ b. b.key) c.deref-else-key-deref.ensures, ap (λ b. b.key) c.deref_mut-then-deref-key.ensures.value) in
    subst (λ o. MatchOption c.take_out-found-then-deref-key.result (o ≡ None) (λ leaf. IsLeaf leaf.value × (o ≡ Some leaf.value.value)))
    (sym (value_upper c.args.key _ _ t h)) c.take_out-found-then-deref-key.ensures.found

pub returns-then-deref-key-clause-left : goal.returns-then-deref-key-clause-left
returns-then-deref-key-clause-left g n c =
    let t = sides _ _ _ c.in-Full.is c.requires c.deref_mut-then-deref-key.ensures.value in
    let h : c.deref_mut-then-deref-key.result.now.key < c.args.key =
    omega (arith, ap (λ b. b.key) c.deref-else-key-deref.ensures, ap (λ b. b.key) c.deref_mut-then-deref-key.ensures.value) in
    c.balance-then-deref-key.ensures.entries ∙ left_upper c.args.key _ c.take_out-found-then-deref-key.new.tree _ t h c.take_out-found-then-deref-key.ensures.left

pub returns-else-deref-key-clause-found : goal.returns-else-deref-key-clause-found
returns-else-deref-key-clause-found g n c =
    let t = sides _ _ c.in-Full.top.value c.in-Full.is c.requires refl in
    let h : c.in-Full.top.value.key ≡ c.args.key = omega (arith, ap (λ b. b.key) c.deref.ensures, ap (λ b. b.key) c.deref-else-key-deref.ensures) in
    top_found c.args.key _ _ _ _ t h c.take_top.ensures.top

pub returns-else-deref-key-clause-left : goal.returns-else-deref-key-clause-left
returns-else-deref-key-clause-left g n c =
    let t = sides _ _ c.in-Full.top.value c.in-Full.is c.requires refl in
    let h : c.in-Full.top.value.key ≡ c.args.key = omega (arith, ap (λ b. b.key) c.deref.ensures, ap (λ b. b.key) c.deref-else-key-deref.ensures) in
    top_left c.args.key _ _ _ _ t h c.take_top.ensures.top

pub returns-then-key-deref-clause-balanced : goal.returns-then-key-deref-clause-balanced
returns-then-key-deref-clause-balanced g n c small avl =
    let s = avl_sides _ _ _ c.in-Full.is c.deref_mut.ensures.value avl in
    let size = s.size in
    shrunk_lower _ c.take_out-found.new.tree _ c.balance.new.top.value s small (c.take_out-found.ensures.balanced (omega arith) s.lower) c.balance.ensures.balanced

pub returns-then-deref-key-clause-balanced : goal.returns-then-deref-key-clause-balanced
returns-then-deref-key-clause-balanced g n c small avl =
    let s = avl_sides _ _ _ c.in-Full.is c.deref_mut-then-deref-key.ensures.value avl in
    let size = s.size in
    shrunk_upper _ c.take_out-found-then-deref-key.new.tree _ c.balance-then-deref-key.new.top.value s small (c.take_out-found-then-deref-key.ensures.balanced (omega arith) s.upper)
    c.balance-then-deref-key.ensures.balanced
