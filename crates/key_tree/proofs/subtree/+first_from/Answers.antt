use Rattle.std.proofs.Common.{◌≡◌, ◌<◌, ◌≤◌, [], ◌∷◌, ◌++◌, MatchOption, rules, ap, sym, ◌∙◌, subst, arith}
use Rattle.key_tree.specs.Subtree.{entries, entry_of, HasFirst}
use Rattle.key_tree.proofs.TreeLemmas.{sides, from_upper, from_lower, found_first}
use Rattle.key_tree.proofs.subtree.+first_from.Goals as goal

pub first_from-requires : goal.first_from-requires
first_from-requires g n c κs within =
    let t = sides _ _ _ c.in-Full.is c.requires c.deref-then-deref-key.ensures in
    let size = t.size in
    (search rules, (within, t.parts.back))

pub returns-then-deref-key : goal.returns-then-deref-key
returns-then-deref-key g n c =
    let t = sides _ _ _ c.in-Full.is c.requires c.deref-then-deref-key.ensures in
    let h : c.deref-then-deref-key.result.now.key < c.args.key = omega (arith, ap (λ b. b.key) c.deref.ensures, ap (λ b. b.key) c.deref-then-deref-key.ensures) in
    subst (λ es. MatchOption c.first_from.result (es ≡ []) (λ fork. HasFirst (entry_of fork.now) es)) (sym (from_upper c.args.key _ _ t h)) c.first_from.ensures

pub first_from-requires-in-Full : goal.first_from-requires-in-Full
first_from-requires-in-Full g n c κs within =
    let t = sides _ _ _ c.in-Full.is c.requires c.deref-in-Full.ensures in
    let size = t.size in
    (search rules, (within, t.parts.front))

pub returns-in-None : goal.returns-in-None
returns-in-None g n c =
    let t = sides _ _ _ c.in-Full.is c.requires c.deref-in-Full.ensures in
    let h : c.args.key ≤ c.deref-in-Full.result.now.key = omega (arith, ap (λ b. b.key) c.deref.ensures, ap (λ b. b.key) c.deref-in-Full.ensures) in
    let here = c.deref-in-Full.result.now in (
      entries here.upper,
      from_lower c.args.key _ _ t h ∙ ap (λ es. es ++ entry_of here ∷ entries here.upper) c.in-None.ensures
          ∙ ap (λ b. entry_of b ∷ entries here.upper) (c.deref-in-Full.ensures ∙ sym c.deref-in-None.ensures),
    )

pub returns-in_default : goal.returns-in_default
returns-in_default g n c =
    let t = sides _ _ _ c.in-Full.is c.requires c.deref-in-Full.ensures in
    let h : c.args.key ≤ c.deref-in-Full.result.now.key = omega (arith, ap (λ b. b.key) c.deref.ensures, ap (λ b. b.key) c.deref-in-Full.ensures) in
    found_first (λ fork. entry_of fork.now) c.first_from-in-Full.result _ _ _ _ (from_lower c.args.key _ _ t h) c.first_from-in-Full.ensures c.in_default.not-None
