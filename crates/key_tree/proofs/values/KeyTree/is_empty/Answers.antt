use Rattle.std.proofs.Common.{ap, sym, ◌∙◌}
use Rattle.key_tree.specs.Subtree.{entries}
use Rattle.key_tree.proofs.TreeLemmas.{not_empty}
use Rattle.key_tree.proofs.values.KeyTree.is_empty.Goals as goal

pub returns-in-Full : goal.returns-in-Full
returns-in-Full g c = (λ f. absurd (cc), λ e. absurd (not_empty _ _ _ (ap entries (sym c.in-Full.is) ∙ c.self.view_is ∙ e)))
