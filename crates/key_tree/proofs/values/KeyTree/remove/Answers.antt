use Rattle.std.proofs.Common.{Option, Some, None, IfNone, length, arith, ap, sym, ◌∙◌, subst}
use Rattle.key_tree.specs.Entries.{AreSorted}
use Rattle.key_tree.proofs.EntryLemmas.{length-without, others, sorted_without, without_none}
use Rattle.key_tree.specs.Subtree.{entries}
use Rattle.key_tree.proofs.values.KeyTree.remove.Goals as goal

pub invariant_of-self : goal.invariant_of-self
invariant_of-self g c = (
  subst AreSorted (sym c.in_err-leaf.ensures.left) (sorted_without _ _ c.self.invariant.0),
  λ small.
      let before = c.self.invariant.1 small in
      let most = before.1 in
      let new_tree = c.in_err-leaf.ensures.balanced (omega arith) before.0 in
      (new_tree.0, omega (arith, ap length c.in_err-leaf.ensures.left, length-without c.args.key (entries c.self.inside.all))),
)

pub invariant_of-self-2 : goal.invariant_of-self-2
invariant_of-self-2 g c = (
  subst AreSorted (sym c.in_ok-leaf.ensures.left) (sorted_without _ _ c.self.invariant.0),
  λ small.
      let before = c.self.invariant.1 small in
      let most = before.1 in
      let new_tree = c.in_ok-leaf.ensures.balanced (omega arith) before.0 in
      (new_tree.0, omega (arith, ap length c.in_ok-leaf.ensures.left, length-without c.args.key (entries c.self.inside.all))),
)

in_both : {V : Type 0} (o : Option V) (P : Type 0) → P → IfNone o P
in_both None P p = p
in_both (Some v) P p = tt

pub returns-in_err-leaf-clause-unchanged : goal.returns-in_err-leaf-clause-unchanged
returns-in_err-leaf-clause-unchanged g c =
    let same = without_none _ _ (others c.args.key _ c.in_err-leaf.ensures.found) in
    in_both _ _ (c.in_err-leaf.ensures.left ∙ same ∙ c.self.view_is)
