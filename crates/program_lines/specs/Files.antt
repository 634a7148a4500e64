-- The workers of a process whose open files are few.
use Rattle.std.specs.Prelude.{ℕ, ◌-◌, ◌/◌, min, max}

-- How many workers there are if this number of open files is allowed and that number of workers is asked for: two files for each worker,
-- and 40 more; at least one worker.
-- Shown by: outside_tests test_program_lines.rt: few_files_are_for_fewer_workers.
abbrev pub workers_for : ℕ → ℕ → ℕ
workers_for files asked = min asked (max 1 ((files - 40) / 2))
