use Rattle.bus_server.proofs.WordsLemmas.{said}
use Rattle.bus_server.proofs.program.say.Goals as goal

pub returns : goal.returns
returns g c = said _ _ c.write_all.result _ _ _ c.write_all.ensures.wrote c.write_all.ensures.count
