-- The program with words that are no command.
use Rattle.std.specs.Prelude.{◌≡◌, ℕ, ◌⊎◌, List, ◌++◌}
use Rattle.program_lines.specs.declared.status.Status.{Status}
use Rattle.program_lines.specs.declared.status.Status.TheVariants as statuses
use Rattle.command_line.specs.Fault.{AreRefused, AskForHelp}
use Rattle.command_line.specs.declared.fault.WordsFault.{WordsFault}
use Rattle.command_line.specs.declared.fault.WordsFault.TheVariants as faults

-- What was written, and the status: `Done` or `WriteFault` if the words ask for help or for the version; else nothing, with `Usage` if they are
-- refused, or `NoMemory`.
-- Shown by: help-of-serve; bad-arguments.
abbrev pub EndsUnread : List (List ℕ) → List ℕ → List ℕ → Status → Type 0
EndsUnread words old new status =
    (AskForHelp words × ((status ≡ statuses.Done) ⊎ (status ≡ statuses.WriteFault)) × ((text : List ℕ) × (new ≡ old ++ text)))
    ⊎ (((status ≡ statuses.Usage) × AreRefused words × (new ≡ old)) ⊎ ((status ≡ statuses.NoMemory) × (new ≡ old)))

-- the same by why they are not carried out, for private clauses
abbrev pub EndsBy : WordsFault → List ℕ → List ℕ → Status → Type 0
EndsBy (faults.Help help) old new status = ((status ≡ statuses.Done) ⊎ (status ≡ statuses.WriteFault)) × ((text : List ℕ) × (new ≡ old ++ text))
EndsBy (faults.Refused help) old new status = (status ≡ statuses.Usage) × (new ≡ old)
EndsBy faults.NoMemory old new status = (status ≡ statuses.NoMemory) × (new ≡ old)
