use Rattle.std.proofs.Common.{◌≡◌, ◌++◌, List, length}
use Rattle.input_transform.specs.Path.{AreSteps, steps_text}
use Rattle.input_transform.specs.declared.path.Step.{Step}
use Rattle.input_transform.proofs.path_text.read_steps.Given as goal

-- the steps so far, and that steps which all of the bytes write are these and then what the rest writes
abbrev pub invariant-loop-rest : goal.invariant-loop-rest
invariant-loop-rest l = record {
  written : l.bytes ≡ steps_text l.steps.items ++ l.rest;
  steps : AreSteps l.steps.items;
  only : (all : List Step) → AreSteps all → l.bytes ≡ steps_text all → (left : List Step) × (all ≡ l.steps.items ++ left) × AreSteps left × (l.rest ≡ steps_text left);
}

abbrev pub decreases-loop-rest : goal.decreases-loop-rest
decreases-loop-rest l = length l.rest
