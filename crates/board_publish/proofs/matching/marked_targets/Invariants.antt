use Rattle.std.proofs.Common.{◌≡◌, ◌++◌, List, length}
use Rattle.std.specs.Prelude.{flat_map}
use Rattle.board_publish.specs.Found.{found_for}
use Rattle.board_publish.specs.declared.entered.Entered.{Entered}
use Rattle.board_publish.proofs.matching.marked_targets.Given as goal

-- the targets of the rules so far, which are those that are not left
abbrev pub invariant-loop-rule : goal.invariant-loop-rule
invariant-loop-rule l =
    (done : List Entered) × (done ++ l.left ≡ l.initial.left) × (l.targets.items ≡ flat_map (found_for l.set l.bus l.marks) done)

abbrev pub decreases-loop-rule : goal.decreases-loop-rule
decreases-loop-rule l = length l.left
