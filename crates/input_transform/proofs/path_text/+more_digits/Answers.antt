use Rattle.std.proofs.Common.{arith}
use Rattle.input_transform.proofs.PathLemmas.{no_bracket}
use Rattle.input_transform.proofs.path_text.+more_digits.Goals as goal

pub returns-in-empty : goal.returns-in-empty
returns-in-empty t c m rest fits e = no_bracket c.args.n m c.args.bytes.now rest c.requires fits (omega arith) e
