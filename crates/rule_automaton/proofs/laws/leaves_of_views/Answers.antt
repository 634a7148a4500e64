use Rattle.rule_automaton.proofs.ViewLaw.{view_found, view_of}
use Rattle.rule_automaton.proofs.laws.leaves_of_views.Goals as goal

pub returns : goal.returns
returns c event leaf path value = (λ h. view_of event leaf path h, λ h. view_found event h.0 leaf path value h.1 h.2)
