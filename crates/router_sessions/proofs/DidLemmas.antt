-- From the clauses of the desk to what the courier's trait says was done, and from there to a delivery: `did_made`, `delivers`, `made_start`.
use Rattle.std.proofs.Common.{ℕ, List, [], ◌++◌}
use Rattle.courier_run.specs.Link.{Outside, Goes}
use Rattle.courier_run.specs.Act.{book_acts_in}
use Rattle.courier_run.specs.declared.stepped.Stepped.{Stepped}
use Rattle.router_history.specs.declared.book.Seat.{Seat}
use Rattle.router_history.specs.History.{Turn}
use Rattle.router_history.specs.Book.{IsBook}
use Rattle.router_history.specs.Acts.{Act, Steps, Makes}
use Rattle.router_sessions.specs.Desk.{Known, turns_seen, SeesMore}
use Rattle.router_sessions.specs.Delivery.{Made, Did, Delivers}
use Rattle.router_sessions.proofs.DeskLemmas.{sees_again, sees_none}
use Rattle.router_history.proofs.BookLemmas.{added_legal}
use Rattle.router_history.proofs.ActLemmas.{makes_none, makes_joined, makes_full}

-- acts, and then later ones, between legal histories
pub makes_append : (seat : Seat) (first second : List Act) (old mid new : List Turn) → IsBook old → IsBook mid → Makes seat first old mid → Makes seat second mid new
    → Makes seat (first ++ second) old new
makes_append seat first second old mid new h h_mid one two =
    makes_joined seat first second old mid new one (added_legal old mid one.added h h_mid one.turns) two

-- at first nothing was done
pub made_start : {V : Type 0} (seat : Seat) (known : Known V) → IsBook (turns_seen known) → Made seat known known []
made_start seat known h = record { first_book = h; book = h; more = sees_none known; makes = makes_none seat (turns_seen known) }

-- what was done at the desk is done beside all that was done before
pub did_made : {V : Type 0} (seat : Seat) (old new : Known V) (acts : List Act) → IsBook (turns_seen old) → IsBook (turns_seen new) → SeesMore old new
    → Makes seat acts (turns_seen old) (turns_seen new) → Did seat old new acts
did_made seat old new acts h h_new more makes = λ start before made. record {
  first_book = made.first_book;
  book = h_new;
  more = sees_again start old new made.more more;
  makes = makes_append seat before acts (turns_seen start) (turns_seen old) (turns_seen new) made.first_book h made.makes makes;
}

-- the steps of a delivery
pub delivers : (seat : Seat) (budget : ℕ) (old new : List Turn) (o n : Outside) (made : Stepped) (acts : List Act) → Makes seat (book_acts_in acts) old new
    → Steps budget acts made.turned made.stop → Goes acts o n → Delivers seat budget old new o n made
delivers seat budget old new o n made acts makes steps goes = record { acts = acts; steps = steps; makes = makes_full seat acts old new makes; goes = goes }
