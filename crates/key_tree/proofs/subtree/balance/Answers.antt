use Rattle.std.proofs.Common.{◌≡◌, ◌<◌, ◌+◌, ◌^◌, ap, sym, subst, arith}
use Rattle.key_tree.specs.Subtree.{height_of}
use Rattle.key_tree.specs.Balance.{IsAvl}
use Rattle.key_tree.proofs.BalanceLemmas.{lifted_lower, lifted_upper}
use Rattle.key_tree.proofs.subtree.balance.Goals as goal

pub returns-then-saturating_sub-gt1-clause-balanced : goal.returns-then-saturating_sub-gt1-clause-balanced
returns-then-saturating_sub-gt1-clause-balanced g c lower upper close small =
    let here = c.deref_mut.result.now in
    let is = c.deref_mut.ensures.value in
    let below = ap (λ b. height_of b.lower) is in
    let above = ap (λ b. height_of b.upper) is in
    let close2 = close.0 in
    let two : height_of here.upper + 2 ≡ height_of here.lower = omega (arith, ap (λ b. height_of b.lower) c.deref.ensures, ap (λ b. height_of b.upper) c.deref-2.ensures) in
    let fits : height_of here.lower < 2 ^ 63 = omega arith in
    let ready = c.lift_higher_upper.ensures.ready (subst (λ b. IsAvl b.lower) (sym is) lower) (omega arith) fits in
    let all = lifted_lower c.lift_higher_upper.new.tree _ c.lift_lower.new.top.value (height_of here.lower) c.lift_lower.ensures.lifted ready
    (subst (λ b. IsAvl b.upper) (sym is) upper) two fits in
    let least = all.1 in
    let most = all.2 in
    (all.0, omega arith, omega arith, λ p q. absurd (omega arith))

pub returns-then-saturating_sub-gt1-2-clause-balanced : goal.returns-then-saturating_sub-gt1-2-clause-balanced
returns-then-saturating_sub-gt1-2-clause-balanced g c lower upper close small =
    let here = c.deref_mut-then-saturating_sub-gt1-2.result.now in
    let is = c.deref_mut-then-saturating_sub-gt1-2.ensures.value in
    let below = ap (λ b. height_of b.lower) is in
    let above = ap (λ b. height_of b.upper) is in
    let close2 = close.1 in
    let two : height_of here.lower + 2 ≡ height_of here.upper = omega (arith, ap (λ b. height_of b.lower) c.deref.ensures, ap (λ b. height_of b.upper) c.deref-2.ensures) in
    let fits : height_of here.upper < 2 ^ 63 = omega arith in
    let ready = c.lift_higher_lower.ensures.ready (subst (λ b. IsAvl b.upper) (sym is) upper) (omega arith) fits in
    let all = lifted_upper c.lift_higher_lower.new.tree _ c.lift_upper.new.top.value (height_of here.upper) c.lift_upper.ensures.lifted ready
    (subst (λ b. IsAvl b.lower) (sym is) lower) two fits in
    let least = all.1 in
    let most = all.2 in
    (all.0, omega arith, omega arith, λ p q. absurd (omega arith))
