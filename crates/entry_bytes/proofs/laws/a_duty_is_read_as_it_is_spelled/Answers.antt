use Rattle.entry_bytes.proofs.DutyFormats.{duty_format}
use Rattle.entry_bytes.proofs.laws.a_duty_is_read_as_it_is_spelled.Goals as goal

pub returns : goal.returns
returns c = duty_format
