use Rattle.entry_bytes.proofs.ChangeFormats.{change_format}
use Rattle.entry_bytes.proofs.laws.a_change_is_read_as_it_is_spelled.Goals as goal

pub returns : goal.returns
returns c = change_format
