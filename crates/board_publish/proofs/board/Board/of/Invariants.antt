use Rattle.std.proofs.Common.{◌≡◌, ◌++◌, List, length}
use Rattle.rule_table.specs.RuleSet.{Bus}
use Rattle.board_publish.proofs.BuildLemmas.{AreKnown}
use Rattle.board_publish.proofs.board.Board.of.Given as goal

-- the buses so far, which are those that are not left, have their automata
abbrev pub invariant-loop-bus : goal.invariant-loop-bus
invariant-loop-bus l = (done : List Bus) × (done ++ l.buses ≡ l.initial.buses) × AreKnown done l.matchers

abbrev pub decreases-loop-bus : goal.decreases-loop-bus
decreases-loop-bus l = length l.buses
