use Rattle.std.proofs.Common.{length}
use Rattle.leaf_match.proofs.WildLemmas.{Reads}
use Rattle.leaf_match.proofs.wildcard.Wild.read.Given as goal

abbrev pub invariant-loop-piece : goal.invariant-loop-piece
invariant-loop-piece l = Reads l.text l.unread l.wild

abbrev pub decreases-loop-piece : goal.decreases-loop-piece
decreases-loop-piece l = length l.unread
