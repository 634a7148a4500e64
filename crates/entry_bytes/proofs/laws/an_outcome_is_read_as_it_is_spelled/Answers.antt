use Rattle.entry_bytes.proofs.DutyFormats.{outcome_format}
use Rattle.entry_bytes.proofs.laws.an_outcome_is_read_as_it_is_spelled.Goals as goal

pub returns : goal.returns
returns c = outcome_format
