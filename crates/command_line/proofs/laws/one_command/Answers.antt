use Rattle.command_line.proofs.ValueLemmas.{command_once}
use Rattle.command_line.proofs.laws.one_command.Goals as goal

pub returns : goal.returns
returns c = λ words a b p q. command_once words a b p q
