use Rattle.std.proofs.Common.{◌≡◌, map, take}
use Rattle.json_text.specs.View.{trees_of}
use Rattle.rule_table.specs.Target.{target_of}
use Rattle.config_views.specs.Views.{target_items}
use Rattle.config_views.proofs.targets.target_items.Given as goal

-- the items so far
abbrev pub invariant-loop-target : goal.invariant-loop-target
invariant-loop-target l = trees_of l.items.items ≡ target_items (map target_of (take l.target-index l.targets))
