use Rattle.std.proofs.Common.{◌≡◌, ◌++◌, length}
use Rattle.input_transform.specs.Names.{Scene}
use Rattle.input_transform.specs.Letters.{shown, steps_of, inside_of}
use Rattle.input_transform.proofs.flat.push_quoted.Given as goal

-- what is written so far and what the rest becomes are what all becomes
abbrev pub invariant-loop-rest : goal.invariant-loop-rest
invariant-loop-rest l = (scene : Scene) → shown scene (steps_of l.paths) l.out ++ inside_of l.paths scene l.rest
    ≡ shown scene (steps_of l.paths) l.initial.out ++ inside_of l.paths scene l.text

abbrev pub decreases-loop-rest : goal.decreases-loop-rest
decreases-loop-rest l = length l.rest
