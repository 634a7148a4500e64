use Rattle.std.proofs.Common.{◌≡◌, ◌+◌, ◌≤◌, ◌++◌, map, vec_len, vec_capacity}
use Rattle.session_workers.specs.Places.{lent_of}
use Rattle.session_workers.proofs.door.return_all.Given as goal

-- those that are alone and those that are left are all, in order
abbrev pub invariant-loop-placed : goal.invariant-loop-placed
invariant-loop-placed g l = (l.owns.items ++ map lent_of l.placed.items ≡ map lent_of l.initial.placed.items)
    × (vec_len l.owns + vec_len l.placed ≤ vec_capacity l.owns)

abbrev pub decreases-loop-placed : goal.decreases-loop-placed
decreases-loop-placed g l = vec_len l.placed
