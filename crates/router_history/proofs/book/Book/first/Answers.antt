use Rattle.std.proofs.Common.{List, ap}
use Rattle.router_history.specs.History.{Turn, state_of}
use Rattle.router_history.proofs.book.Book.first.Goals as goal

pub returns-clause-book : goal.returns-clause-book
returns-clause-book g c =
    record { kept = c.in_ok-machine.ensures.kept; home = ap (λ (ts : List Turn). (state_of ts).disk) c.in_ok-machine.ensures.first }
