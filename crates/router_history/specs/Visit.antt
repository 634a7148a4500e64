-- A connection that ended, and the history that its session fits.
use Rattle.std.specs.Prelude.{◌≡◌, ◌≢◌, ◌⊎◌, ℕ, Bool, true, false, List, [], ◌∷◌, ◌++◌, Some, map}
use Rattle.std.proofs.Common.{inl, inr, ap, sym, ◌∙◌, subst, append_assoc}
use Rattle.std.proofs.lemmas.List.{map-append}
use mathlib.Core.List.{IsPrefix}
use Rattle.turn_book.specs.Rule.{turns_by}
use Rattle.router_disk.specs.Faults.{Rose}
use Rattle.router_disk.specs.Link.{Exchange}
use Rattle.router_history.specs.declared.history.Turn.{Turn}
use Rattle.message_streams.specs.declared.farewell.SessionEnd.{SessionEnd}
use Rattle.message_streams.specs.declared.farewell.SessionEnd.TheVariants.{Closed, Cut, Refused, Long, ReadFault, WriteFault, NoMemory}
use Rattle.router_history.specs.History as history
use Rattle.router_history.specs.History.{HasMark}
use Rattle.router_history.specs.Book.{turn_of, Rests}
use Rattle.router_history.specs.Acts.{world}
use Rattle.router_history.specs.Session.{IsSession}

-- Out of memory ended the session.
-- Shown by: proofs alone.
abbrev pub is_cut : SessionEnd → Bool
is_cut Closed = false
is_cut Cut = false
is_cut Refused = false
is_cut Long = false
is_cut ReadFault = false
is_cut WriteFault = false
is_cut NoMemory = true

-- A pass that made no turn, or has no open claim, and so in each longer history to which it added none.
-- Shown by: a_claim_is_kept.edit.
abbrev pub OwesNothing : ℕ → List Turn → Type 0
OwesNothing n turns = (later : List Turn) → IsPrefix turns later → turns_by (λ t. t.pass) n later ≡ turns_by (λ t. t.pass) n turns
    → (turns_by (λ t. t.pass) n later ≡ []) ⊎ Rests n (map turn_of later)

pub owes_unturned : (n : ℕ) (turns : List Turn) → turns_by (λ t. t.pass) n turns ≡ [] → OwesNothing n turns
owes_unturned n turns none = λ later longer same. inl (same ∙ none)

pub owes_later : (n : ℕ) (seen turns : List Turn) → IsPrefix seen turns → turns_by (λ t. t.pass) n turns ≡ turns_by (λ t. t.pass) n seen
    → OwesNothing n seen → OwesNothing n turns
owes_later n seen turns (xs, one) kept owes = λ later (ys, two) same.
    owes later (xs ++ ys, sym (append_assoc seen xs ys) ∙ ap (λ (ts : List Turn). ts ++ ys) one ∙ two) (same ∙ kept)

-- The book broke in these turns, so no further connection is to be served.
-- Shown by: law the_mark_breaks.
abbrev pub HasBroken : List Turn → Type 0
HasBroken turns = HasMark (map turn_of turns)

mark_stays : (xs ys : List history.Turn) → HasMark xs → HasMark (xs ++ ys)
mark_stays [] ys mark = absurd mark
mark_stays (x ∷ xs) ys (inl mark) = inl mark
mark_stays (x ∷ xs) ys (inr mark) = inr (mark_stays xs ys mark)

pub broken_stays : (seen turns : List Turn) → IsPrefix seen turns → HasBroken seen → HasBroken turns
broken_stays seen turns (rest, is) broken =
    subst HasBroken is (subst HasMark (sym (map-append turn_of seen rest)) (mark_stays (map turn_of seen) (map turn_of rest) broken))

module _ {I O : Type 0} (gave : I → List (List ℕ)) (wrote : O → List ℕ) (reads : I → ℕ) (writes : O → ℕ) where
  -- A connection with this number came with these streams and ended with those. Its session (`IsSession`) began after the turns `before`
  -- and is in these turns, by one pass whose turns name the connection, beside turns of other passes. `cut` says whether out of memory
  -- ended it. `gave` and `wrote` are what the streams show, `reads` and `writes` their counts of faults: a fault ends a session only if it
  -- was counted. The clock's readings and the link's answers are any that the session allows.
  -- Shown by: program_tests serve.rt: two_workers_serve_the_first_run, a_held_reply_holds_no_other_connection.
  pub record IsVisit (n : ℕ) (came went : I × O) (cut : Bool) (before turns : List Turn) : Type 0 where
    pub pass : ℕ
    pub during : List Turn
    pub after : List Turn
    pub turns_are : turns ≡ before ++ (during ++ after)
    pub end : SessionEnd
    pub cut_is : cut ≡ is_cut end
    pub readings : List ℕ
    pub readings_new : List ℕ
    pub answered : List Exchange
    pub answered_new : List Exchange
    pub faults : ℕ
    pub faults_new : ℕ
    pub session : IsSession (record { pass = pass; connection = Some n })
        (world (map turn_of before) (gave came.0) (wrote came.1) readings answered faults)
        (world (map turn_of (before ++ during)) (gave went.0) (wrote went.1) readings_new answered_new faults_new) end
    pub read_fault : end ≡ ReadFault → Rose (reads came.0) (reads went.0)
    pub input_faultless : end ≢ ReadFault → reads went.0 ≡ reads came.0
    pub write_fault : end ≡ WriteFault → Rose (writes came.1) (writes went.1)
    pub output_faultless : end ≢ WriteFault → writes went.1 ≡ writes came.1

  -- a longer history has the same turns of the connection
  pub visit_lasts : (n : ℕ) (came went : I × O) (cut : Bool) (before turns more : List Turn) → IsVisit n came went cut before turns
      → IsVisit n came went cut before (turns ++ more)
  visit_lasts n came went cut before turns more v = record {
    pass = v.pass;
    during = v.during;
    after = v.after ++ more;
    turns_are = ap (λ (ts : List Turn). ts ++ more) v.turns_are ∙ (append_assoc before (v.during ++ v.after) more
        ∙ ap (λ (ts : List Turn). before ++ ts) (append_assoc v.during v.after more));
    end = v.end;
    cut_is = v.cut_is;
    readings = v.readings;
    readings_new = v.readings_new;
    answered = v.answered;
    answered_new = v.answered_new;
    faults = v.faults;
    faults_new = v.faults_new;
    session = v.session;
    read_fault = v.read_fault;
    input_faultless = v.input_faultless;
    write_fault = v.write_fault;
    output_faultless = v.output_faultless;
  }
