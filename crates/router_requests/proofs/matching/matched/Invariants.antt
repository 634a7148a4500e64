use Rattle.std.proofs.Common.{◌≡◌, ◌++◌, List, length}
use Rattle.json_text.specs.View.{tree_of}
use Rattle.rule_table.specs.RuleSet.{Rule}
use Rattle.router_requests.specs.Matching.{AreMatched}
use Rattle.router_requests.proofs.matching.matched.Given as goal

-- the targets of the rules so far, which are those that are not left
abbrev pub invariant-loop-rule : goal.invariant-loop-rule
invariant-loop-rule l = (done : List Rule) × (done ++ l.rules ≡ l.initial.rules) × AreMatched done (tree_of l.event) l.targets.items

abbrev pub decreases-loop-rule : goal.decreases-loop-rule
decreases-loop-rule l = length l.rules
