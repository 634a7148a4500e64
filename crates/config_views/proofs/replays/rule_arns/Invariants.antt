use Rattle.std.proofs.Common.{◌≡◌, ◌++◌, drop}
use Rattle.json_text.specs.View.{trees_of}
use Rattle.config_views.specs.Replays.{arns_of}
use Rattle.config_views.proofs.replays.rule_arns.Given as goal

-- the ARNs so far, and those of the rules that are left
abbrev pub invariant-loop-rule : goal.invariant-loop-rule
invariant-loop-rule l = trees_of l.items.items ++ arns_of l.bus (drop l.rule-index l.rules) ≡ arns_of l.bus l.rules
