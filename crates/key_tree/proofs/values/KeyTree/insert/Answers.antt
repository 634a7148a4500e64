use Rattle.std.proofs.Common.{◌≡◌, ◌+◌, length, arith, ap, sym, ◌∙◌, subst}
use Rattle.key_tree.specs.Entries.{value_at, AreSorted}
use Rattle.key_tree.proofs.EntryLemmas.{length-placed, others, sorted_placed}
use Rattle.key_tree.specs.Subtree.{entries}
use Rattle.key_tree.proofs.values.KeyTree.insert.Goals as goal

pub invariant_of-self : goal.invariant_of-self
invariant_of-self g c =
    let new = others c.args.key _ (ap (value_at c.args.key) c.self.view_is ∙ c.requires.new_key) in (
      subst AreSorted (sym c.put.ensures.entries) (sorted_placed _ _ c.self.invariant.0 new),
      λ small.
          let before = c.self.invariant.1 (omega arith) in
          let most = before.1 in
          let new_tree = c.put.ensures.balanced (omega arith) before.0 in
          let size : length (entries c.put.new.tree) ≡ length (entries c.self.inside.all) + 1 = ap length c.put.ensures.entries ∙ length-placed _ _ in
          (new_tree.0, omega arith),
    )
