use Rattle.std.proofs.Common.{◌≡◌, take}
use Rattle.input_transform.specs.Letters.{steps_of}
use Rattle.input_transform.proofs.template.copy_paths.Given as goal

abbrev pub invariant-loop-entry : goal.invariant-loop-entry
invariant-loop-entry l = l.copies.items ≡ steps_of (take l.entry-index l.paths)
