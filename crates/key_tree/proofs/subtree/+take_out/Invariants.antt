use Rattle.std.proofs.Common.{length}
use Rattle.key_tree.specs.Subtree.{entries}
use Rattle.key_tree.proofs.subtree.+take_out.Given as goal

abbrev pub decreases-take_out : goal.decreases-take_out
decreases-take_out g l = length (entries l.tree.now)
