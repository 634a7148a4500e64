use Rattle.std.proofs.Common.{◌≤◌, ℕ, List, length}
use Rattle.event_text.specs.Written.{BeginsText}
use Rattle.event_text.proofs.string.after_string.Given as goal

-- the characters so far, and what is left
abbrev pub invariant-pieces : goal.invariant-pieces
invariant-pieces l = record { text : (t : List ℕ) × BeginsText t l.bytes l.left; within : length l.left ≤ length l.bytes }

abbrev pub decreases-pieces : goal.decreases-pieces
decreases-pieces l = length l.left
