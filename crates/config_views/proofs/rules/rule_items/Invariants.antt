use Rattle.std.proofs.Common.{◌≡◌, ◌++◌, length}
use Rattle.std.specs.Option.{option_copied}
use Rattle.json_text.specs.View.{trees_of}
use Rattle.config_views.specs.Views.{rule_items}
use Rattle.config_views.proofs.rules.rule_items.Given as goal

-- the items so far, and those of the rules that are left
abbrev pub invariant-loop-rule : goal.invariant-loop-rule
invariant-loop-rule l =
    trees_of l.items.items ++ rule_items l.name (option_copied l.prefix) l.rules ≡ rule_items l.name (option_copied l.prefix) l.bus.rules

abbrev pub decreases-loop-rule : goal.decreases-loop-rule
decreases-loop-rule l = length l.rules
