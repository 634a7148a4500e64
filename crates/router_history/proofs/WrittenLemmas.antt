-- The batches of a book are admitted one after the other, claims set aside: `book_admitted`.
use Rattle.std.proofs.Common.{◌≡◌, ℕ, Bool, true, false, List, [], ◌∷◌, ◌++◌, Option, Some, None, refl, sym, ap, ◌∙◌, subst}
use Rattle.delivery_duties.specs.Duties.{Duties, pending_row, marked_row}
use Rattle.router_core.specs.Admitted.{AreBatchesAdmitted}
use Rattle.router_requests.specs.Batch.{Batch}
use Rattle.router_core.specs.Tables.{Tables, first_tables, after_batch, tables_after}
use Rattle.router_history.specs.History.{Ask, opens, asked, claims, records, puts_back, repeats, breaks, found_by, Turn, State, after_change, after_turn, begun_with}
use Rattle.router_history.specs.History.{IsTurnFor, IsWriteAdmitted, AreTurnsFrom, batches_of, with_written}
use Rattle.router_history.specs.Folds.{without_claims}
use Rattle.router_history.specs.Book.{IsBook}
use Rattle.router_history.proofs.PendingLemmas.{AreNumbered}
use Rattle.router_history.proofs.SteadyLemmas.{IsSteady, steady_ask, steady_begun, steady_found}
use Rattle.router_history.proofs.FoldLemmas.{claim_freed, batch_freed, found_tables, tables_freed}
use Rattle.router_history.proofs.AdmittedLemmas.{admitted_freed}
use Rattle.router_history.proofs.BookLemmas.{opened_state, legal_later, found_lawful}

written_admitted : (b : Option Batch) (s : State) (bs : List Batch) → IsWriteAdmitted s.tables b
    → AreBatchesAdmitted (without_claims (after_change b s).tables) bs → AreBatchesAdmitted (without_claims s.tables) (with_written b bs)
written_admitted None s bs admitted more = more
written_admitted (Some b) s bs admitted more =
    (admitted_freed s.tables b admitted, subst (λ (t : Tables). AreBatchesAdmitted t bs) (batch_freed b s.tables) more)

-- a duty is claimed or released, in a turn without a batch
unwritten_admitted : (mark : Bool) (n : ℕ) (b : Option Batch) (t : Tables) (bs : List Batch) → b ≡ None → AreNumbered t.duties
    → AreBatchesAdmitted (without_claims (record t { duties = marked_row mark (pending_row n t.duties) t.duties })) bs
    → AreBatchesAdmitted (without_claims t) (with_written b bs)
unwritten_admitted mark n b t bs none h more =
    subst (λ (w : Option Batch). AreBatchesAdmitted (without_claims t) (with_written w bs)) (sym none)
    (subst (λ (d : Duties). AreBatchesAdmitted (record t { duties = d }) bs) (claim_freed mark n t.duties h) more)

turn_admitted : (turn : Turn) (ask : Ask) (s : State) (bs : List Batch) → turn.ask ≡ ask → IsSteady s → IsTurnFor s turn ask
    → IsWriteAdmitted s.tables turn.batch → AreBatchesAdmitted (without_claims (after_turn turn s).tables) bs
    → AreBatchesAdmitted (without_claims s.tables) (found_by turn.ask ++ with_written turn.batch bs)
turn_admitted turn (opens start found disk) s bs e h is admitted more = absurd is
turn_admitted turn (asked request) s bs e h is admitted more = let later = rw e at more in rw e (written_admitted turn.batch s bs admitted later)
turn_admitted turn (claims c) s bs e h is admitted more =
    let later = rw e at more in rw e (unwritten_admitted true c.number turn.batch s.tables bs is.unwritten h.numbered later)
turn_admitted turn (records a) s bs e h is admitted more = let later = rw e at more in rw e (written_admitted turn.batch s bs admitted later)
turn_admitted turn (puts_back c why) s bs e h is admitted more =
    let later = rw e at more in rw e (unwritten_admitted false c.number turn.batch s.tables bs is.0 h.numbered later)
turn_admitted turn (repeats reading) s bs e h is admitted more = let later = rw e at more in rw e (written_admitted turn.batch s bs admitted later)
turn_admitted turn (breaks unsure) s bs e h is admitted more =
    let later = rw e at more in
    rw e (subst (λ (w : Option Batch). AreBatchesAdmitted (without_claims s.tables) (with_written w bs)) (sym is.unwritten) later)

turns_admitted : (s : State) (turns : List Turn) → AreTurnsFrom s turns → IsSteady s → AreBatchesAdmitted (without_claims s.tables) (batches_of turns)
turns_admitted s [] legal h = tt
turns_admitted s (turn ∷ turns) legal h =
    turn_admitted turn turn.ask s (batches_of turns) refl h legal.0.made_for legal.0.admitted
    (turns_admitted (after_turn turn s) turns legal.1 (steady_ask turn turn.ask s legal.0.made_for h))

joined : (xs ys : List Batch) (t : Tables) → AreBatchesAdmitted t xs → AreBatchesAdmitted (tables_after xs t) ys → AreBatchesAdmitted t (xs ++ ys)
joined [] ys t first second = second
joined (x ∷ xs) ys t first second = (first.0, joined xs ys (after_batch x t) first.1 second)

pub book_admitted : (turns : List Turn) → IsBook turns → AreBatchesAdmitted first_tables (batches_of turns)
book_admitted turns h =
    let start : State = opened_state h.found h.disk in
    let steady : IsSteady start = steady_found h.found (begun_with h.disk first_tables) refl (steady_begun h.disk) in
    let later : AreBatchesAdmitted (tables_after h.found first_tables) (batches_of h.later) =
    subst (λ (t : Tables). AreBatchesAdmitted t (batches_of h.later))
    (ap without_claims (found_tables h.found (begun_with h.disk first_tables)) ∙ tables_freed h.found first_tables)
    (turns_admitted start h.later (legal_later turns h) steady) in
    subst (λ (ts : List Turn). AreBatchesAdmitted first_tables (batches_of ts)) (sym h.opened)
    (joined h.found (batches_of h.later) first_tables (found_lawful turns h) later)
