use Rattle.std.proofs.Common.{length}
use Rattle.key_tree.specs.Subtree.{entries}
use Rattle.key_tree.proofs.subtree.+first_from.Given as goal

abbrev pub decreases-first_from : goal.decreases-first_from
decreases-first_from g l = length (entries l.tree.now)
