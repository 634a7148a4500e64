-- Delivery steps through a pass.
use Rattle.std.specs.Prelude.{◌≡◌, ℕ, List, [], ◌++◌}
use Rattle.std.proofs.Common.{sym, subst, append-nil, append_assoc}
use Rattle.atomic_table.specs.Seated.{TableId}
use Rattle.turn_book.specs.Passes.{IsFree}
use Rattle.courier_run.specs.declared.stepped.Stepped.{Stepped}
use Rattle.courier_run.specs.Link.{Outside, Goes}
use Rattle.router_history.specs.declared.book.Seat.{Seat}
use Rattle.router_history.specs.History.{Turn}
use Rattle.router_history.specs.Book.{IsBook}
use Rattle.router_history.specs.Acts.{Act, Steps, Makes}
use Rattle.router_sessions.specs.Desk.{Known, turns_seen, number_of, SeesMore}

-- Delivery steps from a seat, within a budget: their acts, what these did to the history, and what they did to the clock and the link.
-- Shown by: recorded_without_a_send.edit; a_quiet_step_names_a_connection.edit.
pub record Delivers (seat : Seat) (budget : ℕ) (old new : List Turn) (outside outside_new : Outside) (made : Stepped) : Type 0 where
  pub acts : List Act
  pub steps : Steps budget acts made.turned made.stop
  pub makes : Makes seat acts old new
  pub goes : Goes acts outside outside_new

-- for private clauses: what a pass, whose history is legal, did at its desk since it knew `start`
pub record Made {V : Type 0} (seat : Seat) (start known : Known V) (acts : List Act) : Type 0 where
  pub first_book : IsBook (turns_seen start)
  pub book : IsBook (turns_seen known)
  pub more : SeesMore start known
  pub makes : Makes seat acts (turns_seen start) (turns_seen known)

-- these acts are what it did beside all that was done before
abbrev pub Did : {V : Type 0} → Seat → Known V → Known V → List Act → Type 0
Did {V} seat old new acts = (start : Known V) (before : List Act) → Made seat start old before → Made seat start new (before ++ acts)

pub did_none : {V : Type 0} (seat : Seat) (known : Known V) → Did seat known known []
did_none seat known = λ start before made. subst (λ (acts : List Act). Made seat start known acts) (sym (append-nil before)) made

pub did_joined : {V : Type 0} (seat : Seat) (a b c : Known V) (first second : List Act) → Did seat a b first → Did seat b c second → Did seat a c (first ++ second)
did_joined seat a b c first second one two = λ start before made.
    subst (λ (acts : List Act). Made seat start c acts) (append_assoc before first second) (two start (before ++ first) (one start before made))

-- a pass of this hall and this seat, which represents so many passes and made so many, holds no turn, and knows a legal history
abbrev pub IsSeated : {V : Type 0} → TableId → Seat → ℕ → ℕ → Known V → Type 0
IsSeated hall seat passes made known = (known.table_id ≡ hall) × IsFree known × (number_of known ≡ seat.pass) × (known.me.0.passes ≡ passes) × (known.me.0.made ≡ made)
    × IsBook (turns_seen known)
