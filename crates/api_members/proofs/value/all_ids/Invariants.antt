use Rattle.std.proofs.Common.{◌≡◌, drop}
use Rattle.std.specs.List.{list_all}
use Rattle.json_text.specs.View.{trees_of}
use Rattle.api_members.specs.Value.{is_id}
use Rattle.api_members.proofs.value.all_ids.Given as goal

abbrev pub invariant-loop-value : goal.invariant-loop-value
invariant-loop-value l = list_all is_id (trees_of (drop l.value-index l.values)) ≡ list_all is_id (trees_of l.values)
