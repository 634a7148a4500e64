use Rattle.turn_book.specs.Passes.{view}
use Rattle.router_history.specs.Book.{recorded_in}
use Rattle.session_tests.proofs.OwesLemmas.{first_owes}
use Rattle.session_tests.proofs.halls.hall_of.Goals as goal

pub returns-clause-owes : goal.returns-clause-owes
returns-clause-owes g c =
    first_owes (view c.in-Ok.made.1.seat) (recorded_in c.args.book.machine.history) c.in-Ok.ensures.ok.3 c.requires.unmade
