-- What acts did to the world around a session. Other files cite `does_none`, `does_append`, `does_ticked`, `does_acts`, `does_wrote`, `does_read`, `read_acts`,
-- `writes_then`, `after_acts` and `steps_quiet`.
use Rattle.std.proofs.Common.{◌≡◌, ℕ, List, [], ◌∷◌, ◌++◌, Result, Ok, Err, refl, sym, ap, ◌∙◌, subst, append-nil, append_assoc}
use Rattle.std.proofs.lemmas.Grind.{flat_map-append}
use Rattle.router_disk.specs.Link.{Exchange}
use Rattle.router_disk.specs.Sink.{AddsBytes}
use Rattle.router_disk.specs.declared.fault.Failed.{Failed}
use Rattle.delivery_duties.specs.declared.outcome.Fate.{Fate}
use Rattle.delivery_duties.specs.declared.outcome.Outcome.{Outcome}
use Rattle.courier_run.specs.Claim.{Claim}
use Rattle.courier_run.specs.declared.turned.Turned.{Turned}
use Rattle.courier_run.specs.declared.stepped.Stop.{Stop}
use Rattle.courier_run.specs.Act.{Try, reads, ticks, writes, pieces_of, bytes_of, pieces_in, bytes_in, book_acts_in, readings_in, tries_in}
use Rattle.courier_run.specs.Link.{outside, Goes, AreTried}
use Rattle.courier_run.specs.Steps.{IsStep, attempted, Stepping, none, one_more, limited_by, broken_before, broken_by, IsStop, idle_at, full_at, broken_at, out_of_memory, unsent_at, unrecorded, spent, stopped}
use Rattle.courier_run.proofs.ActLemmas.{Goes-none, Goes-append}
use Rattle.router_history.specs.declared.book.Seat.{Seat}
use Rattle.router_history.specs.History.{Turn}
use Rattle.router_history.specs.Book.{IsBook}
use Rattle.router_history.specs.Acts.{Act, Claims, Records, PutsBack, Breaks, IsIdle, IsFullAt, IsBrokenAt, IsUnrecorded, Steps, Makes, World, world, Does}
use Rattle.router_sessions.specs.Reply.{DoesAndWrites}
use Rattle.router_history.proofs.ActLemmas.{makes_none, makes_full}
use Rattle.router_sessions.proofs.DidLemmas.{makes_append}

pub does_none : (seat : Seat) (w : World) → Does seat [] w w
does_none seat w = record {
  makes = makes_none seat w.turns;
  gave = sym (append-nil w.gave);
  written = sym (append-nil w.written);
  goes = Goes-none (outside w.readings w.answered w.link_faults);
}

-- acts, and then later ones, between legal histories
pub does_append : (seat : Seat) (first second : List Act) (a b c : World) → IsBook a.turns → IsBook b.turns → Does seat first a b → Does seat second b c
    → Does seat (first ++ second) a c
does_append seat first second a b c h h_mid one two = record {
  makes = makes_append seat first second a.turns b.turns c.turns h h_mid one.makes two.makes;
  gave = two.gave ∙ ap (λ (g : List (List ℕ)). g ++ pieces_in second) one.gave ∙ append_assoc a.gave (pieces_in first) (pieces_in second)
      ∙ ap (λ (g : List (List ℕ)). a.gave ++ g) (sym (flat_map-append pieces_of first second));
  written = two.written ∙ ap (λ (w : List ℕ). w ++ bytes_in second) one.written ∙ append_assoc a.written (bytes_in first) (bytes_in second)
      ∙ ap (λ (w : List ℕ). a.written ++ w) (sym (flat_map-append bytes_of first second));
  goes = Goes-append first second _ _ _ one.goes two.goes;
}

-- a reading of the clock
pub does_ticked : (seat : Seat) (turns : List Turn) (gave : List (List ℕ)) (written readings readings_new : List ℕ) (answered : List Exchange) (faults reading : ℕ)
    → readings_new ≡ readings ++ reading ∷ []
    → Does seat (ticks reading ∷ []) (world turns gave written readings answered faults) (world turns gave written readings_new answered faults)
does_ticked seat turns gave written readings readings_new answered faults reading is = record {
  makes = makes_full seat (ticks reading ∷ []) turns turns (makes_none seat turns);
  gave = sym (append-nil gave);
  written = sym (append-nil written);
  goes = record { readings = is; answers = []; answered = sym (append-nil answered); tried = (refl, refl) };
}

-- acts on the history, the clock and the link
pub does_acts : (seat : Seat) (acts : List Act) (turns turns_new : List Turn) (gave : List (List ℕ)) (written readings readings_new : List ℕ)
    (answered answered_new : List Exchange) (faults faults_new : ℕ) → pieces_in acts ≡ [] → bytes_in acts ≡ [] → Makes seat acts turns turns_new
    → Goes acts (outside readings answered faults) (outside readings_new answered_new faults_new)
    → Does seat acts (world turns gave written readings answered faults) (world turns_new gave written readings_new answered_new faults_new)
does_acts seat acts turns turns_new gave written readings readings_new answered answered_new faults faults_new none_read none_written made goes = record {
  makes = made;
  gave = sym (ap (λ (g : List (List ℕ)). gave ++ g) none_read ∙ append-nil gave);
  written = sym (ap (λ (w : List ℕ). written ++ w) none_written ∙ append-nil written);
  goes = goes;
}

-- acts on the history alone: one turn, one look, or what others made
pub does_made : (seat : Seat) (acts : List Act) (turns turns_new : List Turn) (gave : List (List ℕ)) (written readings : List ℕ) (answered : List Exchange)
    (faults : ℕ) → pieces_in acts ≡ [] → bytes_in acts ≡ [] → readings_in acts ≡ [] → tries_in acts ≡ [] → Makes seat acts turns turns_new
    → Does seat acts (world turns gave written readings answered faults) (world turns_new gave written readings answered faults)
does_made seat acts turns turns_new gave written readings answered faults none_read none_written none_ticked none_tried made =
    does_acts seat acts turns turns_new gave written readings readings answered answered faults faults none_read none_written made
    (record {
      readings = sym (ap (λ (r : List ℕ). readings ++ r) none_ticked ∙ append-nil readings);
      answers = [];
      answered = sym (append-nil answered);
      tried = subst (λ (ts : List Try). AreTried faults ts [] faults) (sym none_tried) (refl, refl);
    })

-- bytes were written
pub does_wrote : (seat : Seat) (turns : List Turn) (gave : List (List ℕ)) (written written_new readings : List ℕ) (answered : List Exchange) (faults : ℕ)
    (bytes : List ℕ) → written_new ≡ written ++ bytes
    → Does seat (writes bytes ∷ []) (world turns gave written readings answered faults) (world turns gave written_new readings answered faults)
does_wrote seat turns gave written written_new readings answered faults bytes is = record {
  makes = makes_full seat (writes bytes ∷ []) turns turns (makes_none seat turns);
  gave = sym (append-nil gave);
  written = is ∙ ap (λ (w : List ℕ). written ++ w) (sym (append-nil bytes));
  goes = record { readings = sym (append-nil readings); answers = []; answered = sym (append-nil answered); tried = (refl, refl) };
}

-- reads that gave these pieces
abbrev pub read_acts : List (List ℕ) → List Act
read_acts [] = []
read_acts (piece ∷ pieces) = reads piece ∷ read_acts pieces

pub read_more : (first second : List (List ℕ)) → read_acts (first ++ second) ≡ read_acts first ++ read_acts second
read_more [] second = refl
read_more (piece ∷ pieces) second = ap (λ (acts : List Act). reads piece ∷ acts) (read_more pieces second)

read_pieces : (pieces : List (List ℕ)) → pieces_in (read_acts pieces) ≡ pieces
read_pieces [] = refl
read_pieces (piece ∷ pieces) = ap (λ (ps : List (List ℕ)). piece ∷ ps) (read_pieces pieces)

read_bytes : (pieces : List (List ℕ)) → bytes_in (read_acts pieces) ≡ []
read_bytes [] = refl
read_bytes (piece ∷ pieces) = read_bytes pieces

read_readings : (pieces : List (List ℕ)) → readings_in (read_acts pieces) ≡ []
read_readings [] = refl
read_readings (piece ∷ pieces) = read_readings pieces

read_tries : (pieces : List (List ℕ)) → tries_in (read_acts pieces) ≡ []
read_tries [] = refl
read_tries (piece ∷ pieces) = read_tries pieces

read_book : (pieces : List (List ℕ)) → book_acts_in (read_acts pieces) ≡ []
read_book [] = refl
read_book (piece ∷ pieces) = read_book pieces

pub does_read : (seat : Seat) (turns : List Turn) (gave gave_new pieces : List (List ℕ)) (written readings : List ℕ) (answered : List Exchange) (faults : ℕ)
    → gave_new ≡ gave ++ pieces
    → Does seat (read_acts pieces) (world turns gave written readings answered faults) (world turns gave_new written readings answered faults)
does_read seat turns gave gave_new pieces written readings answered faults is = record {
  makes = makes_full seat (read_acts pieces) turns turns
      (subst (λ (acts : List Act). Makes seat acts turns turns) (sym (read_book pieces)) (makes_none seat turns));
  gave = is ∙ ap (λ (g : List (List ℕ)). gave ++ g) (sym (read_pieces pieces));
  written = sym (ap (λ (w : List ℕ). written ++ w) (read_bytes pieces) ∙ append-nil written);
  goes = record {
    readings = sym (ap (λ (r : List ℕ). readings ++ r) (read_readings pieces) ∙ append-nil readings);
    answers = [];
    answered = sym (append-nil answered);
    tried = subst (λ (ts : List Try). AreTried faults ts [] faults) (sym (read_tries pieces)) (refl, refl);
  };
}

-- acts, and then a text was written, or a first part of it
pub writes_then : (seat : Seat) (acts : List Act) (text : List ℕ) (old : World) (turns : List Turn) (gave : List (List ℕ)) (written written_new readings : List ℕ)
    (answered : List Exchange) (faults : ℕ) (result : Result (Unit {0}) Failed) → IsBook old.turns → IsBook turns
    → Does seat acts old (world turns gave written readings answered faults) → AddsBytes written written_new result text
    → DoesAndWrites seat acts text old (world turns gave written_new readings answered faults) result
writes_then seat acts text old turns gave written written_new readings answered faults (Ok u) h h_new done wrote =
    does_append seat acts (writes text ∷ []) old (world turns gave written readings answered faults) (world turns gave written_new readings answered faults) h h_new done
    (does_wrote seat turns gave written written_new readings answered faults text wrote)
writes_then seat acts text old turns gave written written_new readings answered faults (Err e) h h_new done (part, rest, is, wrote) = (
  part,
  rest,
  is,
  does_append seat acts (writes part ∷ []) old (world turns gave written readings answered faults) (world turns gave written_new readings answered faults) h h_new done
      (does_wrote seat turns gave written written_new readings answered faults part wrote),
)

-- acts come before others and a text
pub after_acts : (seat : Seat) (first second : List Act) (text : List ℕ) (old mid new : World) (result : Result (Unit {0}) Failed) → IsBook old.turns → IsBook mid.turns
    → Does seat first old mid → DoesAndWrites seat second text mid new result → DoesAndWrites seat (first ++ second) text old new result
after_acts seat first second text old mid new (Ok u) h h_mid one two =
    subst (λ (acts : List Act). Does seat acts old new) (sym (append_assoc first second (writes text ∷ [])))
    (does_append seat first (second ++ writes text ∷ []) old mid new h h_mid one two)
after_acts seat first second text old mid new (Err e) h h_mid one (part, rest, is, two) = (
  part,
  rest,
  is,
  subst (λ (acts : List Act). Does seat acts old new) (sym (append_assoc first second (writes part ∷ [])))
      (does_append seat first (second ++ writes part ∷ []) old mid new h h_mid one two),
)

-- acts that read and write nothing
abbrev pub AreQuiet : List Act → Type 0
AreQuiet acts = (pieces_in acts ≡ []) × (bytes_in acts ≡ [])

quiet_append : (first second : List Act) → AreQuiet first → AreQuiet second → AreQuiet (first ++ second)
quiet_append first second one two = (
  flat_map-append pieces_of first second ∙ ap (λ (g : List (List ℕ)). g ++ pieces_in second) one.0 ∙ two.0,
  flat_map-append bytes_of first second ∙ ap (λ (w : List ℕ). w ++ bytes_in second) one.1 ∙ two.1,
)

step_quiet : (acts : List Act) (fate : Fate) → IsStep Claims Records PutsBack Breaks IsIdle IsFullAt IsBrokenAt acts fate → AreQuiet acts
step_quiet _ _ (attempted reading p q c outcome fate claims fits records) = (refl, refl)

stepping_quiet : (acts : List Act) (turned : Turned) → Stepping Claims Records PutsBack Breaks IsIdle IsFullAt IsBrokenAt acts turned → AreQuiet acts
stepping_quiet _ _ none = (refl, refl)
stepping_quiet _ _ (one_more acts step turned fate before one) = quiet_append acts step (stepping_quiet acts turned before) (step_quiet step fate one)

unrecorded_quiet : (c : Claim) (outcome : Outcome) (acts : List Act) (stop : Stop) → IsUnrecorded c outcome acts stop → AreQuiet acts
unrecorded_quiet c outcome _ _ (limited_by q back) = (refl, refl)
unrecorded_quiet c outcome _ _ (broken_before q back) = (refl, refl)
unrecorded_quiet c outcome _ _ (broken_by m q breaks back) = (refl, refl)

stop_quiet : (acts : List Act) (stop : Stop) → IsStop Claims Records PutsBack Breaks IsIdle IsFullAt IsBrokenAt acts stop → AreQuiet acts
stop_quiet _ _ (idle_at reading s idle) = (refl, refl)
stop_quiet _ _ (full_at reading s full) = (refl, refl)
stop_quiet _ _ (broken_at reading s broken) = (refl, refl)
stop_quiet _ _ (out_of_memory reading s) = (refl, refl)
stop_quiet _ _ (unsent_at reading p q c claims needs back) = (refl, refl)
stop_quiet _ _ (unrecorded reading p c outcome ends stop claims fits is) = unrecorded_quiet c outcome ends stop is

-- delivery steps read and write nothing
pub steps_quiet : (budget : ℕ) (acts : List Act) (turned : Turned) (stop : Stop) → Steps budget acts turned stop → AreQuiet acts
steps_quiet budget _ _ _ (spent acts turned stepping all) = stepping_quiet acts turned stepping
steps_quiet budget _ _ _ (stopped acts last turned stop stepping few is) =
    quiet_append acts last (stepping_quiet acts turned stepping) (stop_quiet last stop is)
