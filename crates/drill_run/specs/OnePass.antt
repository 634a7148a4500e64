-- A history that one pass made.
use Rattle.std.specs.Prelude.{◌≡◌, List, [], Some, All}
use Rattle.router_core.specs.Tables.{first_tables, tables_after}
use Rattle.router_history.specs.declared.book.Seat.{Seat}
use Rattle.router_history.specs.History.{Turn, state_of, batches_of}
use Rattle.router_history.specs.Book.{IsBook}
use Rattle.router_history.specs.Folds.{without_claims}

-- The seat of the one session of a run: pass 0, connection 0.
-- Shown by: proofs alone.
abbrev pub only_seat : Seat
only_seat = record { pass = 0; connection = Some 0 }

-- The history of a router that one pass changed, from the first tables on: it is legal (`IsBook`), no claim is open after it, and the tables,
-- claims set aside, are the fold of its batches.
-- Shown by: first-run.
pub record IsOfOnePass (turns : List Turn) : Type 0 where
  pub book : IsBook turns
  pub alone : All (λ t. t.pass ≡ Some 0) book.later
  pub none_open : (state_of turns).open_claims ≡ []
  pub tables : without_claims (state_of turns).tables ≡ tables_after (batches_of turns) first_tables
