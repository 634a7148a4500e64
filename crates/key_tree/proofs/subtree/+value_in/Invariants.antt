use Rattle.std.proofs.Common.{length}
use Rattle.key_tree.specs.Subtree.{entries}
use Rattle.key_tree.proofs.subtree.+value_in.Given as goal

abbrev pub decreases-value_in : goal.decreases-value_in
decreases-value_in g l = length (entries l.tree.now)
