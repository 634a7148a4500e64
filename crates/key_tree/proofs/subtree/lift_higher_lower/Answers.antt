use Rattle.std.proofs.Common.{◌<◌, ◌^◌, ap, refl, subst, arith}
use Rattle.key_tree.specs.Subtree.{height_of}
use Rattle.key_tree.specs.Balance.{IsAvl}
use Rattle.key_tree.proofs.BalanceLemmas.{upper_lifts}
use Rattle.key_tree.proofs.subtree.lift_higher_lower.Goals as goal

pub returns-then-height-clause-ready : goal.returns-then-height-clause-ready
returns-then-height-clause-ready g c avl some small =
    let top = c.in-Full.top.value in
    let height = ap height_of c.in-Full.is in
    let less : height_of top.upper < height_of top.lower = omega (arith, ap (λ b. height_of b.upper) c.deref.ensures, ap (λ b. height_of b.lower) c.deref-in-Full.ensures) in
    let fits : top.height < 2 ^ 63 = omega (arith, height) in
    rw height (upper_lifts top.lower top c.lift_lower.new.top.value c.lift_lower.ensures.lifted refl (subst IsAvl c.in-Full.is avl) less fits)
