-- What a program that serves printed.
use Rattle.std.specs.Prelude.{◌≡◌, ℕ, ◌++◌, List}
use Rattle.program_lines.specs.declared.printed.Summary.{Summary}
use Rattle.program_lines.specs.Printed.{listening_text, summary_lines}
use Rattle.tables_summary.specs.Summary.{summary_of}

-- A summary of zeros.
-- Shown by: program_tests clauses.rt: a_door_that_closes_at_once_leaves_zeros.
abbrev pub zeros : Summary
zeros = record {
  records = 0;
  entries = 0;
  control = 0;
  events = 0;
  archived = 0;
  replays = 0;
  duties = 0;
  pending = 0;
  delivered = 0;
  dead_lettered = 0;
  dropped = 0;
  messages = 0;
}

-- The line `listening` and the port were printed, and then a summary of zeros.
-- Shown by: program_tests clauses.rt: a_door_that_closes_at_once_leaves_zeros.
abbrev pub PrintsZeros : ℕ → List ℕ → List ℕ → Type 0
PrintsZeros port old new = new ≡ old ++ (listening_text port ++ summary_lines zeros)
