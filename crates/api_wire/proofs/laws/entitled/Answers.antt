use Rattle.api_wire.proofs.EntitledLemmas.{is_entitled}
use Rattle.api_wire.proofs.laws.entitled.Goals as goal

pub returns : goal.returns
returns c = is_entitled
