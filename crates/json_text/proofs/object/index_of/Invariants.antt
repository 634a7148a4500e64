use Rattle.std.proofs.Common.{◌≡◌, ◌≤◌, ℕ, List, length, drop}
use Rattle.std.specs.BTreeMap.{get_by_text}
use Rattle.json_text.specs.Objects.{slot_from}
use Rattle.json_text.proofs.object.index_of.Given as goal

-- the map has the keys of the members from n on
abbrev pub invariant-loop-n : goal.invariant-loop-n
invariant-loop-n l = record { within : l.n ≤ length l.members; index : (key : List ℕ) → get_by_text l.slots key ≡ slot_from l.n key (drop l.n l.members) }

abbrev pub decreases-loop-n : goal.decreases-loop-n
decreases-loop-n l = l.n
