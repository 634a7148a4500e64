-- The reading of the command line, for private clauses alone.
use Rattle.std.specs.Prelude.{◌≡◌, ◌≢◌, ◌⊎◌, List}
use Rattle.clap.specs.Walk.{Row, Text, first_of}
use Rattle.clap.specs.declared.error.kind.ErrorKind.{ErrorKind}
use Rattle.clap.specs.declared.error.kind.ErrorKind.TheVariants as kinds
use Rattle.command_line.specs.Command.{CommandView, HasValues, name_of}
use Rattle.command_line.specs.declared.fault.WordsFault.{WordsFault}
use Rattle.command_line.specs.declared.fault.WordsFault.TheVariants as faults

-- a refusal, or memory ran out
abbrev pub IsRefusal : WordsFault → Type 0
IsRefusal (faults.Help text) = ⊥
IsRefusal (faults.Refused text) = Unit {0}
IsRefusal faults.NoMemory = Unit {0}

-- a refusal only if the fact does not hold
abbrev pub Denies : Type 0 → WordsFault → Type 0
Denies A (faults.Help text) = ⊥
Denies A (faults.Refused text) = ¬ A
Denies A faults.NoMemory = Unit {0}

-- a command of this name with what was found of its options
abbrev pub IsRead : Text → List Row → CommandView → Type 0
IsRead name rows command = (name ≡ name_of command) × HasValues (λ option. first_of option rows) command

-- what an error of a kind means
abbrev pub Means : ErrorKind → WordsFault → Type 0
Means kind (faults.Help text) = (kind ≡ kinds.DisplayHelp) ⊎ (kind ≡ kinds.DisplayVersion)
Means kind (faults.Refused text) = (kind ≢ kinds.OutOfMemory) × (kind ≢ kinds.DisplayHelp) × (kind ≢ kinds.DisplayVersion)
Means kind faults.NoMemory = Unit {0}
