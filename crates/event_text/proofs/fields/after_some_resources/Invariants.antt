use Rattle.std.proofs.Common.{ℕ, List, ◌∷◌, length, map}
use Rattle.json_text.specs.Tree.{text}
use Rattle.event_text.specs.Written.{BeginsItems}
use Rattle.event_text.proofs.fields.after_some_resources.Given as goal

-- the texts so far, of which there is at least one
abbrev pub invariant-loop-left : goal.invariant-loop-left
invariant-loop-left l = (t : List ℕ) × (ts : List (List ℕ)) × BeginsItems 0 (map text (t ∷ ts)) (34 ∷ l.bytes) l.left

abbrev pub decreases-loop-left : goal.decreases-loop-left
decreases-loop-left l = length l.left
