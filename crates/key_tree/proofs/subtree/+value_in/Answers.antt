use Rattle.std.proofs.Common.{◌≡◌, ◌<◌, None, Some, MatchOption, rules, ap, sym, subst, arith}
use Rattle.key_tree.proofs.TreeLemmas.{sides, value_lower, value_upper, value_top}
use Rattle.key_tree.proofs.subtree.+value_in.Goals as goal

pub value_in-requires : goal.value_in-requires
value_in-requires g n c κs within =
    let t = sides _ _ _ c.in-Full.is c.requires c.deref-then-key-deref.ensures in
    let size = t.size in
    (search rules, (within, t.parts.front))

pub value_in-requires-then-deref-key : goal.value_in-requires-then-deref-key
value_in-requires-then-deref-key g n c κs within =
    let t = sides _ _ _ c.in-Full.is c.requires c.deref-then-deref-key.ensures in
    let size = t.size in
    (search rules, (within, t.parts.back))

pub returns-then-key-deref : goal.returns-then-key-deref
returns-then-key-deref g n c =
    let t = sides _ _ _ c.in-Full.is c.requires c.deref-then-key-deref.ensures in
    let h : c.args.key < c.deref-then-key-deref.result.now.key = omega (arith, ap (λ b. b.key) c.deref.ensures, ap (λ b. b.key) c.deref-then-key-deref.ensures) in
    subst (λ o. MatchOption c.value_in.result (o ≡ None) (λ value. o ≡ Some value.now)) (sym (value_lower c.args.key _ _ t h)) c.value_in.ensures

pub returns-then-deref-key : goal.returns-then-deref-key
returns-then-deref-key g n c =
    let t = sides _ _ _ c.in-Full.is c.requires c.deref-then-deref-key.ensures in
    let h : c.deref-then-deref-key.result.now.key < c.args.key =
    omega (arith, ap (λ b. b.key) c.deref-else-key-deref.ensures, ap (λ b. b.key) c.deref-then-deref-key.ensures) in
    subst (λ o. MatchOption c.value_in-then-deref-key.result (o ≡ None) (λ value. o ≡ Some value.now)) (sym (value_upper c.args.key _ _ t h))
    c.value_in-then-deref-key.ensures

pub returns-else-deref-key : goal.returns-else-deref-key
returns-else-deref-key g n c =
    let t = sides _ _ _ c.in-Full.is c.requires c.deref-else-deref-key.ensures in
    let h : c.deref-else-deref-key.result.now.key ≡ c.args.key =
    omega (arith, ap (λ b. b.key) c.deref.ensures, ap (λ b. b.key) c.deref-else-key-deref.ensures, ap (λ b. b.key) c.deref-else-deref-key.ensures) in
    value_top c.args.key _ _ t h
