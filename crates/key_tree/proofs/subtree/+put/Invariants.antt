use Rattle.std.proofs.Common.{length}
use Rattle.key_tree.specs.Subtree.{entries}
use Rattle.key_tree.proofs.subtree.+put.Given as goal

abbrev pub decreases-put : goal.decreases-put
decreases-put g l = length (entries l.tree.now)
