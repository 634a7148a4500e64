use Rattle.std.proofs.Common.{◌≡◌, ◌++◌, length}
use Rattle.json_text.specs.View.{trees_of}
use Rattle.config_views.specs.Views.{rule_names}
use Rattle.config_views.proofs.targets.rule_names.Given as goal

-- the names so far, and those of the rules that are left
abbrev pub invariant-loop-rule : goal.invariant-loop-rule
invariant-loop-rule l = trees_of l.items.items ++ rule_names l.arn l.rules ≡ rule_names l.arn l.bus.rules

abbrev pub decreases-loop-rule : goal.decreases-loop-rule
decreases-loop-rule l = length l.rules
