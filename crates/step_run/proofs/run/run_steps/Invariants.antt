use Rattle.std.proofs.Common.{◌≡◌, ◌-◌, ◌≤◌, List, ◌++◌, length}
use Rattle.step_run.specs.Act.{Act, book_acts_in, readings_in}
use Rattle.step_run.specs.Steps.{Stepping}
use Rattle.step_run.specs.Step.{IsStep, IsStop}
use Rattle.step_run.proofs.run.run_steps.Given as goal

-- the steps so far, and their number
abbrev pub invariant-loop-made : goal.invariant-loop-made
invariant-loop-made g l = (l.made ≤ l.budget) × (g.B.StepBook.lender l.book ≡ g.B.StepBook.lender l.fn.book) × g.B.StepBook.sound l.book
    × ((acts : List (Act g.B.StepBook.Placed g.B.StepBook.State g.B.StepBook.Other)) × (turns : List g.B.StepBook.Placed)
    × g.B.StepBook.did l.fn.book l.book (book_acts_in acts)
    × Stepping (IsStep g.B.StepBook.steps g.B.StepBook.breaks g.B.StepBook.idle g.B.StepBook.full g.B.StepBook.broken)
    (IsStop g.B.StepBook.steps g.B.StepBook.breaks g.B.StepBook.idle g.B.StepBook.full g.B.StepBook.broken) acts turns
    × (length turns ≡ l.made) × (g.C.Clock.gave l.clock ≡ g.C.Clock.gave l.fn.clock ++ readings_in acts))

abbrev pub decreases-loop-made : goal.decreases-loop-made
decreases-loop-made g l = l.budget - l.made
