use Rattle.std.proofs.Common.{◌<◌, ◌^◌, ap, refl, subst, arith}
use Rattle.key_tree.specs.Subtree.{height_of}
use Rattle.key_tree.specs.Balance.{IsAvl}
use Rattle.key_tree.proofs.BalanceLemmas.{lower_lifts}
use Rattle.key_tree.proofs.subtree.lift_higher_upper.Goals as goal

pub returns-then-height-clause-ready : goal.returns-then-height-clause-ready
returns-then-height-clause-ready g c avl some small =
    let top = c.in-Full.top.value in
    let height = ap height_of c.in-Full.is in
    let less : height_of top.lower < height_of top.upper = omega (arith, ap (λ b. height_of b.lower) c.deref.ensures, ap (λ b. height_of b.upper) c.deref-in-Full.ensures) in
    let fits : top.height < 2 ^ 63 = omega (arith, height) in
    rw height (lower_lifts top.upper top c.lift_upper.new.top.value c.lift_upper.ensures.lifted refl (subst IsAvl c.in-Full.is avl) less fits)
