-- The book after one more turn. Other files cite `steady_of`, `disk_of`, `whole_of`, `found_lawful`, `added_legal`, `legal_later`, `book_first`, `IsMade`, `made_book`, `made_makes`, `made_state`, `latest`, `turn_by`, `book_with`, `kept_same`,
-- `added_of`, `grown_twice`, `grown_none`.
use Rattle.std.proofs.Common.{◌≡◌, ℕ, ◌+◌, ◌-◌, false, take, List, [], ◌∷◌, ◌++◌, length, Option, Some, None, refl, sym, ap, ◌∙◌, subst, arith, append-nil, append_assoc}
use Rattle.std.proofs.Math.Seq.{take-length}
use Rattle.std.proofs.lemmas.List.Elements.{All-append, All-nil}
use Rattle.rule_table.specs.Control.{Control}
use Rattle.rule_table.specs.RuleSet.{RuleSet, applied_all}
use Rattle.router_core.specs.Admitted.{AreBatchesAdmitted}
use Rattle.router_requests.specs.Batch.{Batch}
use Rattle.router_core.specs.Tables.{Tables, first_tables}
use Rattle.courier_run.specs.Act.{makes}
use Rattle.router_history.specs.declared.book.Machine.{Machine}
use Rattle.router_history.specs.declared.book.Seat.{Seat}
use Rattle.router_history.specs.declared.history.History.{History}
use Rattle.router_history.specs.declared.history.Turn.{Turn as CodeTurn}
use Rattle.router_history.specs.History.{OpenedDisk, Ask, opens, Turn, State, Placed, IsTurnFor, IsTurnOf, IsWriteAdmitted, IsLatest, last_version, set_of_version, IsLegal, AreTurnsFrom, after_ask, state_after, state_of, begun_with, after_all}
use Rattle.router_history.specs.Book.{recorded_in, turns_of, opening_on, opening, HasGrown, IsBook, IsSoundMachine}
use Rattle.router_history.specs.Acts.{Makes}
use Rattle.router_history.specs.Answered.{IsAdded}
use Rattle.router_history.proofs.TurnLemmas.{state_append, turns_append, turns_back}
use Rattle.router_history.proofs.SteadyLemmas.{IsSteady, steady_after, steady_begun, steady_found, disk_after, whole_after, found_disk, found_whole}
use Rattle.router_history.proofs.ActLemmas.{makes_one}

-- the state in which a book was opened
abbrev pub opened_state : List Batch → Option OpenedDisk → State
opened_state found disk = after_all found (begun_with disk first_tables)

-- the turns after the one that opened the book
pub legal_later : (turns : List Turn) (h : IsBook turns) → AreTurnsFrom (opened_state h.found h.disk) h.later
legal_later turns h = (subst IsLegal h.opened h.legal).1

pub state_later : (turns : List Turn) (h : IsBook turns) → state_of turns ≡ state_after h.later (opened_state h.found h.disk)
state_later turns h = ap state_of h.opened

-- the state of a book
pub steady_of : (turns : List Turn) → IsBook turns → IsSteady (state_of turns)
steady_of turns h =
    subst IsSteady (sym (state_later turns h))
    (steady_after h.later (opened_state h.found h.disk) (legal_later turns h) (steady_found h.found (begun_with h.disk first_tables) refl (steady_begun h.disk)))

-- the disk with which the book was opened
pub disk_of : (turns : List Turn) (h : IsBook turns) → (state_of turns).disk ≡ h.disk
disk_of turns h =
    ap (λ (s : State). s.disk) (state_later turns h) ∙ disk_after h.later (opened_state h.found h.disk) (legal_later turns h)
    ∙ found_disk h.found (begun_with h.disk first_tables)

-- without a journal it is not broken
pub whole_of : (turns : List Turn) → IsBook turns → (state_of turns).disk ≡ None → (state_of turns).broken ≡ false
whole_of turns h none =
    ap (λ (s : State). s.broken) (state_later turns h)
    ∙ whole_after h.later (opened_state h.found h.disk) (legal_later turns h) (found_disk h.found (begun_with h.disk first_tables) ∙ sym (disk_of turns h) ∙ none)
    (found_whole h.found (begun_with h.disk first_tables))

opens_same : (a b : Tables) (xs ys : List Batch) (d e : Option OpenedDisk) → opens a xs d ≡ opens b ys e → (b ≡ a) × (ys ≡ xs)
opens_same a b xs ys d e is = (cc, cc)

-- what was found is lawful
pub found_lawful : (turns : List Turn) (h : IsBook turns) → AreBatchesAdmitted first_tables h.found
found_lawful turns h =
    let o = (subst IsLegal h.opened h.legal).0 in
    let (start, found) = opens_same first_tables o.start h.found o.found h.disk o.disk o.ask in
    subst (λ (t : Tables). AreBatchesAdmitted t h.found) start (subst (AreBatchesAdmitted o.start) found o.lawful)

-- the turns that a book has beyond another one
pub added_legal : (old new added : List Turn) → IsBook old → IsBook new → new ≡ old ++ added → AreTurnsFrom (state_of old) added
added_legal old new added h h_new is =
    let all : IsLegal (opening_on h.found h.disk ∷ (h.later ++ added)) = subst IsLegal (is ∙ ap (λ (ts : List Turn). ts ++ added) h.opened) h_new.legal in
    subst (λ (s : State). AreTurnsFrom s added) (sym (state_later old h)) (turns_back (opened_state h.found h.disk) h.later added all.1).1

-- a book with one turn more
pub book_more : (old new : List Turn) (turn : Turn) → IsBook old → IsTurnOf (state_of old) turn → new ≡ old ++ turn ∷ [] → IsBook new
book_more old new turn h is turns =
    let opened : new ≡ opening_on h.found h.disk ∷ (h.later ++ turn ∷ []) = turns ∙ ap (λ (ts : List Turn). ts ++ turn ∷ []) h.opened in
    let first : IsLegal (opening_on h.found h.disk ∷ h.later) = subst IsLegal h.opened h.legal in
    record {
      found = h.found;
      disk = h.disk;
      later = h.later ++ turn ∷ [];
      opened = opened;
      legal = subst IsLegal (sym opened) (
        first.0,
        turns_append (opened_state h.found h.disk) h.later (turn ∷ []) first.1
            (subst (λ (s : State). IsTurnOf s turn) (state_later old h) is, tt),
      );
    }

-- the book that was just opened
pub book_first : (turns : List Turn) → turns ≡ opening ∷ [] → IsBook turns
book_first turns is = record {
  found = [];
  disk = None;
  later = [];
  opened = is;
  legal = subst IsLegal (sym is)
      (record { start = first_tables; found = []; disk = None; ask = refl; lawful = tt; none_found = λ none. refl; no_pass = refl; no_connection = refl; k = refl; unwritten = refl }, tt);
}

since_start : (a b : ℕ) → a + b - a ≡ b
since_start a b = omega arith

latest_set : (start : RuleSet) (controls : List Control) (set : RuleSet) → set ≡ applied_all controls start
    → set ≡ applied_all (take (start.count + length controls - start.count) controls) start
latest_set start controls set e =
    e ∙ sym (ap (λ cs. applied_all cs start) (ap (λ n. take n controls) (since_start start.count (length controls)) ∙ take-length controls))

-- the rule set of a book's tables is that of the latest version
pub set_of : (b : Machine) (h : IsSoundMachine b) → b.tables.set ≡ set_of_version (last_version (state_of (turns_of b))) (state_of (turns_of b))
set_of b h =
    ap (λ (t : Tables). t.set) (sym h.tables)
    ∙ latest_set (state_of (turns_of b)).start (state_of (turns_of b)).controls (state_of (turns_of b)).tables.set (steady_of (turns_of b) h.book).set

pub version_of : (b : Machine) (h : IsSoundMachine b) → b.tables.set.count ≡ last_version (state_of (turns_of b))
version_of b h = ap (λ (t : Tables). t.set.count) (sym h.tables) ∙ (steady_of (turns_of b) h.book).version

-- a turn of the seat
abbrev pub turn_by : Seat → Ask → ℕ → Option Batch → Turn
turn_by seat ask k batch = record { pass = Some seat.pass; connection = seat.connection; ask = ask; k = k; batch = batch }

-- one turn more of the seat, at the latest configuration version
pub record IsMade (seat : Seat) (ask : Ask) (written : Option Batch) (old new : Machine) (turn : Turn) : Type 0 where
  pub kept : IsSoundMachine old
  pub by : turn.pass ≡ Some seat.pass
  pub connection : turn.connection ≡ seat.connection
  pub made_for : turn.ask ≡ ask
  pub k : turn.k ≡ old.tables.set.count
  pub batch : turn.batch ≡ written
  pub turns : turns_of new ≡ turns_of old ++ turn ∷ []

pub latest : {seat : Seat} {ask : Ask} {batch : Option Batch} {old new : Machine} {turn : Turn} → IsMade seat ask batch old new turn
    → IsLatest (state_of (turns_of old)) turn
latest {seat} {ask} {batch} {old} {new} {turn} m = m.k ∙ version_of old m.kept

pub made_state : {seat : Seat} {ask : Ask} {batch : Option Batch} {old new : Machine} {turn : Turn} → IsMade seat ask batch old new turn
    → state_of (turns_of new) ≡ after_ask turn ask (state_of (turns_of old))
made_state {seat} {ask} {batch} {old} {new} {turn} m =
    ap state_of m.turns ∙ state_append _ (turns_of old) (turn ∷ [])
    ∙ ap (λ a. after_ask turn a (state_of (turns_of old))) m.made_for

pub made_book : {seat : Seat} {ask : Ask} {batch : Option Batch} {old new : Machine} {turn : Turn} → IsMade seat ask batch old new turn
    → IsTurnFor (state_of (turns_of old)) turn ask → IsWriteAdmitted old.tables batch → new.tables ≡ (after_ask turn ask (state_of (turns_of old))).tables
    → IsSoundMachine new
made_book {seat} {ask} {batch} {old} {new} {turn} m is admitted tables = record {
  book = book_more (turns_of old) (turns_of new) turn m.kept.book
      (record {
        made_for = subst (λ (a : Ask). IsTurnFor (state_of (turns_of old)) turn a) (sym m.made_for) is;
        admitted = subst (λ (t : Tables). IsWriteAdmitted t turn.batch) (sym m.kept.tables) (subst (IsWriteAdmitted old.tables) (sym m.batch) admitted);
      }) m.turns;
  tables = ap (λ (s : State). s.tables) (made_state m) ∙ sym tables;
}

-- the turn with the state before it
abbrev pub placed_on : Machine → Turn → Placed
placed_on b turn = record { before = state_of (turns_of b); turn = turn }

pub made_makes : {seat : Seat} {ask : Ask} {batch : Option Batch} {old new : Machine} {turn : Turn} → IsMade seat ask batch old new turn
    → Makes seat (makes (placed_on old turn) ∷ []) (turns_of old) (turns_of new)
made_makes {seat} {ask} {batch} {old} {new} {turn} m =
    makes_one seat (turns_of old) (turns_of new) turn m.turns m.by m.connection (omega (arith, latest m))

-- the book with other tables and another history, of the same rule set
abbrev pub book_with : (old : Machine) (tables : Tables) (history : History) → tables.set ≡ old.tables.set → Machine
book_with old tables history same = record { tables = tables; board = old.board; history = history; same_set = old.same_set ∙ sym same }

-- a book with the tables and the turns of one that is kept
pub kept_same : (old new : Machine) → IsSoundMachine old → new.tables ≡ old.tables → turns_of new ≡ turns_of old → IsSoundMachine new
kept_same old new h tables turns = record {
  book = subst IsBook (sym turns) h.book;
  tables = ap (λ (ts : List Turn). (state_of ts).tables) turns ∙ h.tables ∙ sym tables;
}

-- one turn more, as the book's journal sees it
pub added_of : {seat : Seat} {ask : Ask} {batch : Option Batch} {old new : Machine} {turn : Turn} → IsMade seat ask batch old new turn
    → IsAdded ask batch (turns_of old) (turns_of new)
added_of {seat} {ask} {batch} {old} {new} {turn} m = (turn, m.made_for, m.batch, m.turns)

-- the seat's turns, and then more of them
pub grown_twice : (seat : Seat) (a b c : Machine) → HasGrown seat a b → HasGrown seat b c → HasGrown seat a c
grown_twice seat a b c (xs, one, own) (ys, two, own_two) = (
  xs ++ ys,
  two ∙ ap (λ (ts : List CodeTurn). ts ++ ys) one ∙ append_assoc (recorded_in a.history) xs ys,
  All-append (λ (t : CodeTurn). t.pass ≡ Some seat.pass) xs ys own own_two,
)

-- no turn
pub grown_none : (seat : Seat) (m : Machine) → HasGrown seat m m
grown_none seat m = ([], sym (append-nil (recorded_in m.history)), All-nil (λ (t : CodeTurn). t.pass ≡ Some seat.pass))
