use Rattle.std.proofs.Common.{◌≡◌, take}
use Rattle.json_text.specs.View.{tree_of}
use Rattle.input_transform.specs.Filling.{founds, lookups}
use Rattle.input_transform.proofs.value.looked_up.Given as goal

abbrev pub invariant-loop-path : goal.invariant-loop-path
invariant-loop-path l = founds l.found.items ≡ lookups (tree_of l.event) (take l.path-index l.paths)
