use Rattle.turn_book.specs.Passes.{view}
use Rattle.session_tests.proofs.OwesLemmas.{still_owes}
use Rattle.session_tests.proofs.tests.two_passes_go_on_from_what_the_other_did.Goals as goal

pub send-requires-clause-owes : goal.send-requires-clause-owes
send-requires-clause-owes g c κs =
    let made = c.another-two.ensures in
    still_owes (view c.first_hall-hall.result.1.seat) (view c.another-two.new.pass.seat) made.pass.2 made.learns c.first_hall-hall.ensures.owes
