use Rattle.std.proofs.Common.{◌≡◌, ◌++◌, drop}
use Rattle.json_text.specs.View.{trees_of}
use Rattle.api_members.specs.Value.{names_of_rules}
use Rattle.api_members.proofs.replay.rule_names.Given as goal

abbrev pub invariant-loop-value : goal.invariant-loop-value
invariant-loop-value l = l.names.items ++ names_of_rules l.bus (trees_of (drop l.value-index l.values)) ≡ names_of_rules l.bus (trees_of l.values)
