use Rattle.std.proofs.Common.{◌≡◌, drop}
use Rattle.std.specs.List.{list_all}
use Rattle.json_text.specs.View.{trees_of}
use Rattle.api_members.specs.Value.{is_rule_of}
use Rattle.api_members.proofs.replay.all_rules.Given as goal

abbrev pub invariant-loop-value : goal.invariant-loop-value
invariant-loop-value l = list_all (is_rule_of l.bus) (trees_of (drop l.value-index l.values)) ≡ list_all (is_rule_of l.bus) (trees_of l.values)
