use Rattle.command_line.proofs.LineLemmas.{line_is}
use Rattle.command_line.proofs.laws.lines_are_commands.Goals as goal

pub returns : goal.returns
returns c = λ words command line. line_is words command line
