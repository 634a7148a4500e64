-- A session after its first look.
use Rattle.std.specs.Prelude.{List, ◌∷◌}
use Rattle.courier_run.specs.Act.{looks}
use Rattle.router_history.specs.declared.book.Seat.{Seat}
use Rattle.message_streams.specs.declared.farewell.SessionEnd.{SessionEnd}
use Rattle.router_history.specs.History.{state_of}
use Rattle.router_history.specs.Acts.{Act, World, Does}
use Rattle.router_history.specs.Session.{Ended}

-- for private clauses: the acts after the first look, which showed the history that the pass knew then
abbrev pub HasEnded : Seat → World → World → SessionEnd → Type 0
HasEnded seat old new end = (acts : List Act) × Ended end (looks (state_of old.turns) ∷ acts) × Does seat acts old new
