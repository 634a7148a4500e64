use Rattle.std.proofs.Common.{◌≡◌, ◌++◌, List, length}
use Rattle.rule_table.specs.RuleSet.{Rule}
use Rattle.board_publish.specs.Entered.{AreNumbered}
use Rattle.board_publish.proofs.BuildLemmas.{AreEntered}
use Rattle.board_publish.proofs.building.matcher_of_bus.Given as goal

-- the rules so far, which are those that are not left, are entered if they are enabled
abbrev pub invariant-loop-rule : goal.invariant-loop-rule
invariant-loop-rule l =
    AreNumbered l.patterns.items l.entered l.places
    × ((done : List Rule) × (done ++ l.rules ≡ l.initial.rules) × AreEntered l.patterns.items l.entered done)

abbrev pub decreases-loop-rule : goal.decreases-loop-rule
decreases-loop-rule l = length l.rules
