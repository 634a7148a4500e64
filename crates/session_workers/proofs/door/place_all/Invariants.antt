use Rattle.std.proofs.Common.{◌≡◌, ◌+◌, ◌≤◌, ◌++◌, map, vec_len, vec_capacity}
use Rattle.session_workers.specs.Places.{lent_of}
use Rattle.session_workers.proofs.door.place_all.Given as goal

-- those that have places and those that are left are all, in order
abbrev pub invariant-loop-owns : goal.invariant-loop-owns
invariant-loop-owns g l = (map lent_of l.placed.items ++ l.owns.items ≡ l.initial.owns.items)
    × (vec_len l.placed + vec_len l.owns ≡ vec_len l.initial.owns)
    × (vec_len l.initial.owns ≤ vec_capacity l.placed)
    × (vec_capacity l.owns ≡ vec_capacity l.initial.owns)

abbrev pub decreases-loop-owns : goal.decreases-loop-owns
decreases-loop-owns g l = goal.left-loop-owns g l
