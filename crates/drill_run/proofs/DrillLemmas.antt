-- A drill. Other files cite `next_message` (its messages), `round` (a DeliverDue), `replied` (a session over a message) and
-- `drilled_by` (its book). `same_history`: the one pass of a book has seen all its turns; bus_server cites it.
use Rattle.std.proofs.Common.{◌≡◌, ◌≢◌, ◌∙◌, ℕ, ◌≤◌, true, inl, List, [], ◌∷◌, ◌++◌, map, drop, Option, Some, slice_get, sym, ap, subst, append_assoc, append-nil}
use Rattle.std.proofs.lemmas.List.{map-append}
use Rattle.std.specs.Prelude.{All, option_map}
use Rattle.std.specs.List.{concat}
use Rattle.turn_book.specs.Rule.{IsUnmade, Learns}
use Rattle.turn_book.specs.declared.view.View.{View}
use Rattle.router_history.specs.declared.history.Turn.{Turn as CodeTurn}
use Rattle.router_history.specs.History.{Turn, AreTurnsFrom, state_of, turns_by}
use Rattle.router_core.specs.Tables.{Tables}
use Rattle.router_history.specs.declared.book.Machine.{Machine}
use Rattle.router_history.specs.Book.{turn_of, turns_of, recorded_in, IsBook, IsSoundMachine, Rests}
use Rattle.router_history.specs.Acts.{World, world}
use Rattle.router_history.specs.Session.{IsSession}
use Rattle.router_history.specs.declared.book.Seat.{Seat}
use Rattle.message_streams.specs.declared.farewell.SessionEnd.{SessionEnd}
use Rattle.message_streams.specs.declared.farewell.SessionEnd.TheVariants as ends
use Rattle.router_history.proofs.BookLemmas.{added_legal}
use Rattle.router_sessions.proofs.DeskLemmas.{maker, own_turns, none_added}
use Rattle.router_history.proofs.TurnLemmas.{first_other}
use Rattle.drill_requests.specs.Messages.{deliver_due}
use Rattle.drill_run.specs.declared.run.Round.{Round}
use Rattle.drill_run.specs.declared.run.Round.TheVariants as rounds
use Rattle.program_lines.specs.declared.status.Status.{Status}
use Rattle.drill_run.specs.Drill.{drill_moment, EndsRound, HasReply, IsDrill, IsDrilled, IsRound, has_status_200}
use Rattle.tables_summary.specs.Summary.{IsSummed}
use Rattle.drill_run.proofs.OnePassLemmas.{all_own, of_one_pass, only_pass, others_none}

-- ---- messages

next_of : (done left rest all : List (List ℕ)) (message : List ℕ) → Some message ≡ slice_get left 0 → rest ≡ drop 1 left → done ++ left ≡ all
    → (done ++ message ∷ []) ++ rest ≡ all
next_of done [] rest all message first more is = cc
next_of done (m ∷ left) rest all message first more is =
    let same : message ≡ m = cc in
    append_assoc done (message ∷ []) rest ∙ (λ i. done ++ (same i ∷ more i)) ∙ is

pub next_message : {V : Type 0} (bytes : V → List ℕ) (next : Option V) (m : V) (done left rest all : List (List ℕ)) → next ≡ Some m
    → option_map bytes next ≡ slice_get left 0 → rest ≡ drop 1 left → done ++ left ≡ all → (done ++ bytes m ∷ []) ++ rest ≡ all
next_message bytes next m done left rest all some first more is = next_of done left rest all (bytes m) (sym (ap (option_map bytes) some) ∙ first) more is

-- ---- a book that one pass changed

back_none : (n : ℕ) (ts us : List Turn) → turns_by n (ts ++ us) ≡ [] → turns_by n us ≡ []
back_none n [] us none = none
back_none n (t ∷ ts) us none = back_none n ts us (first_other n t (ts ++ us) none).1

-- the pass has seen all turns of the book
pub same_history : (v : View CodeTurn) (all : List CodeTurn) → v.number ≡ 0 → Learns maker v all → IsUnmade maker 1 all → IsBook (map turn_of v.seen)
    → IsBook (map turn_of all) → map turn_of all ≡ map turn_of v.seen
same_history v all number ((rest, is), own) unmade old new =
    let split : map turn_of all ≡ map turn_of v.seen ++ map turn_of rest = sym (ap (map turn_of) is) ∙ map-append turn_of v.seen rest in
    let legal : AreTurnsFrom (state_of (map turn_of v.seen)) (map turn_of rest) =
    added_legal (map turn_of v.seen) (map turn_of all) (map turn_of rest) old new split in
    let mine : turns_by 0 (map turn_of rest) ≡ [] = ap (λ (n : ℕ). turns_by n (map turn_of rest)) (sym number) ∙ none_added v.number v.seen rest all is own in
    let others : (n : ℕ) → 1 ≤ n → turns_by n (map turn_of rest) ≡ [] = λ n most. back_none n (map turn_of v.seen) (map turn_of rest)
    (ap (turns_by n) (sym split) ∙ own_turns n all ∙ ap (map turn_of) (unmade n most)) in
    split
    ∙ ap (λ (ts : List Turn). map turn_of v.seen ++ ts) (others_none (map turn_of rest) (all_own (state_of (map turn_of v.seen)) (map turn_of rest) legal others) mine)
    ∙ append-nil (map turn_of v.seen)

-- the summary of the book's tables is that of what the pass has seen
pub drilled_by : (seed events : ℕ) (v : View CodeTurn) (b : Machine) (old new : List ℕ) (status : Status) → v.number ≡ 0 → Learns maker v (recorded_in b.history)
    → IsUnmade maker 1 (recorded_in b.history) → IsSoundMachine b → IsBook (map turn_of v.seen) → Rests 0 (map turn_of v.seen)
    → IsDrilled seed events (map turn_of v.seen) → IsSummed b.tables old new status → IsDrill seed events old new status
drilled_by seed events v b old new status number learns unmade kept book rests drilled summed =
    let same : turns_of b ≡ map turn_of v.seen = same_history v (recorded_in b.history) number learns unmade book kept.book in
    let tables : b.tables ≡ (state_of (map turn_of v.seen)).tables = sym kept.tables ∙ ap (λ (ts : List Turn). (state_of ts).tables) same in
    inl (
      map turn_of v.seen,
      drilled,
      of_one_pass (map turn_of v.seen) book rests (only_pass v.seen (recorded_in b.history) learns.0 unmade),
      subst (λ (t : Tables). IsSummed t old new status) tables summed,
    )

-- ---- a DeliverDue

pub round : (reply : List ℕ) (r : Round) (old new : List Turn) → HasReply deliver_due reply old new → IsBook new → IsRound reply r → EndsRound r old new
round reply rounds.More old new replied book is = (reply, replied, is, book)
round reply rounds.Last old new replied book is = (subst (λ (b : List ℕ). HasReply deliver_due b old new) is replied, book)
round reply rounds.Failed old new replied book is = absurd is

-- ---- a session over a message

pub replied : (number : ℕ) (message reply written : List ℕ) (gave gave_new : List (List ℕ)) (readings readings_new : List ℕ) (faults faults_new : ℕ)
    (old new : List Turn) (end : SessionEnd) → number ≡ 0 → gave ≡ [] → written ≡ [] → readings ≡ [] → end ≡ ends.Closed
    → IsSession (record { pass = number; connection = Some 0 }) (world old gave written readings [] faults) (world new gave_new reply readings_new [] faults_new) end
    → concat gave_new ≡ message → All (λ r. r ≡ drill_moment) readings_new → has_status_200 reply ≡ true → HasReply message reply old new
replied number message reply written gave gave_new readings readings_new faults faults_new old new end is unread unwritten unclocked closed session whole each
    success = record {
      gave = gave_new;
      whole = whole;
      readings = readings_new;
      moment = each;
      faults = faults;
      faults_new = faults_new;
      session = subst (λ (n : ℕ). IsSession (record { pass = n; connection = Some 0 }) (world old [] [] [] [] faults) ended ends.Closed) is
          (subst (λ (e : SessionEnd). IsSession seat (world old [] [] [] [] faults) ended e) closed
          (subst (λ (r : List ℕ). IsSession seat (world old [] [] r [] faults) ended end) unclocked
          (subst (λ (w : List ℕ). IsSession seat (world old [] w readings [] faults) ended end) unwritten
          (subst (λ (g : List (List ℕ)). IsSession seat (world old g written readings [] faults) ended end) unread session))));
      success = success;
    }
  where
    seat : Seat
    seat = record { pass = number; connection = Some 0 }

    ended : World
    ended = world new gave_new reply readings_new [] faults_new
