use Rattle.router_history.proofs.SteadyLemmas.{legal_whole}
use Rattle.session_laws.proofs.laws.no_journal_no_break.Goals as goal

pub returns : goal.returns
returns c = legal_whole
