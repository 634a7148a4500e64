use Rattle.json_text.specs.View.{trees_of}
use Rattle.std.proofs.Common.{drop}
use Rattle.api_wire.proofs.TargetLemmas.{Completes}
use Rattle.api_wire.proofs.call.targets.read_targets.Given as goal

abbrev pub invariant-loop-value : goal.invariant-loop-value
invariant-loop-value l = Completes (trees_of l.values) (trees_of (drop l.value-index l.values)) l.targets.items
