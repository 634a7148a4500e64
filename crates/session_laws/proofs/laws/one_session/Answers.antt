use Rattle.session_laws.proofs.SessionLemmas.{end_alike}
use Rattle.session_laws.proofs.laws.one_session.Goals as goal

pub returns : goal.returns
returns c = end_alike (c.one_answer.ensures, c.one_step.ensures)
