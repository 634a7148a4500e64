use Rattle.std.proofs.Common.{map, string_bytes}
use Rattle.clap.specs.Values.{kind_of}
use Rattle.command_line.proofs.FaultLemmas.{clap_fault}
use Rattle.command_line.proofs.command.read_command.Goals as goal

pub returns-in-Err-clause-fault : goal.returns-in-Err-clause-fault
returns-in-Err-clause-fault c =
    clap_fault (map string_bytes c.args.words.now) (kind_of c.in-Err.error) c.fault_for.result c.in-Err.ensures.kinds c.fault_for.ensures
