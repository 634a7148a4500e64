-- Why words are not carried out: by an error of `clap` (`clap_fault`), or by what was read (`read_fault`). No command asks for help (`command_asks`).
use Rattle.std.proofs.Common.{◌≡◌, ◌⊎◌, List, [], inl, inr, subst}
use Rattle.clap.specs.Faults.{fault_of}
use Rattle.clap.specs.Kinds.{IsAmong, Kinds}
use Rattle.clap.specs.Simple.{subcommand_of}
use Rattle.clap.specs.Walk.{Text}
use Rattle.clap.specs.declared.error.kind.ErrorKind.{ErrorKind}
use Rattle.clap.specs.declared.error.kind.ErrorKind.TheVariants as kinds
use Rattle.command_line.specs.Command.{CommandView, IsCommand, IsEntered}
use Rattle.command_line.specs.Fault.{AskForHelp, IsFault}
use Rattle.command_line.specs.Reading.{Denies, Means}
use Rattle.command_line.specs.Table.{ebusd}
use Rattle.command_line.specs.declared.fault.WordsFault.{WordsFault}
use Rattle.command_line.specs.declared.fault.WordsFault.TheVariants as faults

memory_is_no_help : (kind : ErrorKind) → kind ≡ kinds.OutOfMemory → kind ≡ kinds.DisplayHelp → ⊥
memory_is_no_help kind p q = cc

memory_is_no_version : (kind : ErrorKind) → kind ≡ kinds.OutOfMemory → kind ≡ kinds.DisplayVersion → ⊥
memory_is_no_version kind p q = cc

pub clap_fault : (words : List Text) (kind : ErrorKind) (fault : WordsFault) → (kind ≡ kinds.OutOfMemory) ⊎ IsAmong kind (fault_of ebusd words) → Means kind fault
    → IsFault words fault
clap_fault words kind (faults.Help text) (inl memory) (inl help) = absurd (memory_is_no_help kind memory help)
clap_fault words kind (faults.Help text) (inl memory) (inr version) = absurd (memory_is_no_version kind memory version)
clap_fault words kind (faults.Help text) (inr among) (inl help) = inl (subst (λ (k : ErrorKind). IsAmong k (fault_of ebusd words)) help among)
clap_fault words kind (faults.Help text) (inr among) (inr version) = inr (subst (λ (k : ErrorKind). IsAmong k (fault_of ebusd words)) version among)
clap_fault words kind (faults.Refused text) (inl memory) means = absurd (means.0 memory)
clap_fault words kind (faults.Refused text) (inr among) means =
    ((λ command is. subst (λ (ks : Kinds). IsAmong kind ks) is.0 among), inl (kind, among, means.1, means.2))
clap_fault words kind faults.NoMemory has means = tt

pub read_fault : (words : List Text) (fault : WordsFault) → fault_of ebusd words ≡ []
    → Denies ((command : CommandView) × IsEntered (subcommand_of ebusd words) command) fault → IsFault words fault
read_fault words (faults.Help text) none h = absurd h
read_fault words (faults.Refused text) none h = ((λ command is. h (command, is.1)), inr none)
read_fault words faults.NoMemory none h = tt

-- no command asks for help
pub command_asks : (words : List Text) (command : CommandView) → IsCommand words command → AskForHelp words → ⊥
command_asks words command is (inl help) = subst (λ (ks : Kinds). IsAmong kinds.DisplayHelp ks) is.0 help
command_asks words command is (inr version) = subst (λ (ks : Kinds). IsAmong kinds.DisplayVersion ks) is.0 version
