-- Why words are not carried out.
use Rattle.std.specs.Prelude.{◌≡◌, ◌≢◌, ◌⊎◌, List, []}
use Rattle.clap.specs.Walk.{Text}
use Rattle.clap.specs.Kinds.{IsAmong, Kinds}
use Rattle.clap.specs.Faults.{fault_of}
use Rattle.clap.specs.declared.error.kind.ErrorKind.{ErrorKind}
use Rattle.clap.specs.declared.error.kind.ErrorKind.TheVariants as kind_names
use Rattle.command_line.specs.Command.{CommandView, IsCommand}
use Rattle.command_line.specs.Table.{ebusd}
use Rattle.command_line.specs.declared.fault.WordsFault.{WordsFault}
use Rattle.command_line.specs.declared.fault.WordsFault.TheVariants as faults

-- One of the kinds that an error may have is a mistake: neither help nor the version.
-- Shown by: help_is_refused.edit.
abbrev pub HasMistake : Kinds → Type 0
HasMistake kinds = (kind : ErrorKind) × IsAmong kind kinds × (kind ≢ kind_names.DisplayHelp) × (kind ≢ kind_names.DisplayVersion)

-- The words may ask for help or for the version. With the word `help` this and a mistake are both possible, since `clap`'s clauses do not decide
-- whether a subcommand follows.
-- Shown by: help_is_refused.edit.
abbrev pub AskForHelp : List Text → Type 0
AskForHelp words = IsAmong kind_names.DisplayHelp (fault_of ebusd words) ⊎ IsAmong kind_names.DisplayVersion (fault_of ebusd words)

-- The words are no command, and `clap` finds a mistake in them, or no fault at all if only a number is wrong.
-- Shown by: help_is_refused.edit; always_answers_bad_arguments.edit.
abbrev pub AreRefused : List Text → Type 0
AreRefused words = ((command : CommandView) → ¬ IsCommand words command) × (HasMistake (fault_of ebusd words) ⊎ (fault_of ebusd words ≡ []))

-- Why words are not carried out: `AskForHelp`, `AreRefused`, or memory ran out, of which nothing is said.
-- Shown by: help_is_refused.edit; out_of_memory_is_bad_arguments.edit.
abbrev pub IsFault : List Text → WordsFault → Type 0
IsFault words (faults.Help text) = AskForHelp words
IsFault words (faults.Refused text) = AreRefused words
IsFault words faults.NoMemory = Unit {0}
