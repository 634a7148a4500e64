use Rattle.program_tests.proofs.SilentLemmas.{silent_run}
use Rattle.program_tests.proofs.clauses.once_of_nothing.Goals as goal

pub returns-clause-silent : goal.returns-clause-silent
returns-clause-silent g c = let (now, is) = c.requires.once in
    λ same. (silent_run g.H.Link.Link.exchanges g.H.Link.Link.faults now _ _ c.run.result (c.run.ensures.run now is) same).0

pub returns-clause-ends : goal.returns-clause-ends
returns-clause-ends g c = let (now, is) = c.requires.once in
    λ same. (silent_run g.H.Link.Link.exchanges g.H.Link.Link.faults now _ _ c.run.result (c.run.ensures.run now is) same).1
