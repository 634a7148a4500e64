use Rattle.router_history.proofs.MarkLemmas.{marked, breaks_so}
use Rattle.session_laws.proofs.laws.the_mark_breaks.Goals as goal

pub returns : goal.returns
returns c = λ turns legal. (breaks_so turns legal, marked turns legal)
