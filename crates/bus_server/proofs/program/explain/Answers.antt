use Rattle.bus_server.proofs.WordsLemmas.{reported_alone, reported_last}
use Rattle.bus_server.proofs.program.explain.Goals as goal

pub returns-in-Help-clause-last : goal.returns-in-Help-clause-last
returns-in-Help-clause-last g c = reported_alone c.show-status.result _ _ _ _ c.report.ensures

pub returns-in-Refused-clause-last : goal.returns-in-Refused-clause-last
returns-in-Refused-clause-last g c = reported_last _ _ _ _ _ _ _ c.say.ensures c.report-in-Refused.ensures

pub returns-in-NoMemory-clause-last : goal.returns-in-NoMemory-clause-last
returns-in-NoMemory-clause-last g c = reported_alone _ _ _ _ _ c.report-in-NoMemory.ensures
