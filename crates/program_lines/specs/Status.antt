-- How the program ended: the exit status, and the line that reports it.
use Rattle.std.specs.Prelude.{ℕ, List, [], ◌∷◌, ◌++◌, codes, decimal}
use Rattle.program_lines.specs.declared.status.Status.{Status}
use Rattle.program_lines.specs.declared.status.Status.TheVariants as statuses

-- The exit status: `Done` 0, `Usage` 2, `ReadFault` 3, `WriteFault` 4, `DiskFault` 5, `NotOurs` and `Damaged` 6, `NoMemory` 7, `DoorFault` 8,
-- `Cut` 9, `Long` 10, `Refused` 11.
-- Shown by: bad-arguments; cut-message; bad-head; outside_tests test_program_lines.rt: a_damaged_journal_is_reported.
abbrev pub code_of : Status → ℕ
code_of statuses.Done = 0
code_of statuses.Usage = 2
code_of statuses.ReadFault = 3
code_of statuses.WriteFault = 4
code_of statuses.DiskFault = 5
code_of statuses.NotOurs = 6
code_of (statuses.Damaged place byte) = 6
code_of statuses.NoMemory = 7
code_of statuses.DoorFault = 8
code_of statuses.Cut = 9
code_of statuses.Long = 10
code_of statuses.Refused = 11

-- The line of a damaged journal: the record's place, and the byte of its gate.
-- Shown by: outside_tests test_program_lines.rt: a_damaged_journal_is_reported.
abbrev pub damaged_text : ℕ → ℕ → List ℕ
damaged_text place byte =
    codes "ebusd: journal damaged at record " ++ (decimal place ++ (codes ", byte " ++ (decimal byte ++ 10 ∷ [])))

-- The line of a status on standard error, with its line feed; `Done` has none.
-- Shown by: cut-message.
abbrev pub fault_line : Status → List ℕ
fault_line statuses.Done = []
fault_line statuses.Usage = codes "ebusd: bad arguments" ++ 10 ∷ []
fault_line statuses.ReadFault = codes "ebusd: input failed" ++ 10 ∷ []
fault_line statuses.WriteFault = codes "ebusd: output failed" ++ 10 ∷ []
fault_line statuses.DiskFault = codes "ebusd: disk failed" ++ 10 ∷ []
fault_line statuses.NotOurs = codes "ebusd: not a journal" ++ 10 ∷ []
fault_line (statuses.Damaged place byte) = damaged_text place byte
fault_line statuses.NoMemory = codes "ebusd: out of memory" ++ 10 ∷ []
fault_line statuses.DoorFault = codes "ebusd: door failed" ++ 10 ∷ []
fault_line statuses.Cut = codes "ebusd: input ended inside a message" ++ 10 ∷ []
fault_line statuses.Long = codes "ebusd: request limit reached" ++ 10 ∷ []
fault_line statuses.Refused = codes "ebusd: message refused" ++ 10 ∷ []
