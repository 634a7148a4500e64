use Rattle.std.proofs.Common.{◌≡◌, drop}
use Rattle.json_text.specs.View.{tree_of}
use Rattle.input_transform.specs.Path.{found_at}
use Rattle.input_transform.proofs.path.JsonPath.at.Given as goal

-- what the steps that are left find here, all of them find in the value
abbrev pub invariant-loop-step : goal.invariant-loop-step
invariant-loop-step l = found_at (drop l.step-index l.step-items) (tree_of l.here) ≡ found_at l.step-items (tree_of l.json)
