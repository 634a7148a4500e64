use Rattle.std.proofs.Common.{length}
use Rattle.leaf_match.specs.Wild.{IsWildcard}
use Rattle.leaf_match.proofs.wildcard.is_wildcard.Given as goal

abbrev pub invariant-loop-unread : goal.invariant-loop-unread
invariant-loop-unread l =
    record { goes : IsWildcard l.text → IsWildcard l.unread; comes : IsWildcard l.unread → IsWildcard l.text }

abbrev pub decreases-loop-unread : goal.decreases-loop-unread
decreases-loop-unread l = length l.unread
