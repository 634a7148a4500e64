use Rattle.std.proofs.Common.{◌≡◌, ◌++◌, List, length}
use Rattle.std.specs.Prelude.{All}
use Rattle.board_publish.specs.Numbers.{IsMarked}
use Rattle.board_publish.specs.declared.entered.Entered.{Entered}
use Rattle.board_publish.proofs.numbers.taken.Given as goal

-- the numbers of the rules so far are marked, which are those that are not left
abbrev pub invariant-loop-rule : goal.invariant-loop-rule
invariant-loop-rule l =
    (length l.marks ≡ l.places) × ((done : List Entered) × (done ++ l.left ≡ l.initial.left) × All (IsMarked l.marks) done)

abbrev pub decreases-loop-rule : goal.decreases-loop-rule
decreases-loop-rule l = length l.left
