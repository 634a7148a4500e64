-- Steps of replays: their acts as those of a session (`tries_none`, `pieces_none`, `bytes_none`, `readings_same`, `book_acts_same`), and the turn of one,
-- with the book after it (`step_keeps_set`, `repeating`, `repeated`, `repeated_book`). Why there is none: `none_running`, `repeat_limited`, `repeat_unkept`, `repeat_lacks`, `repeat_broke`.
use Rattle.std.proofs.Common.{◌≡◌, ◌≢◌, ℕ, true, false, List, [], ◌∷◌, ◌++◌, map, Option, Some, refl, sym, ap, ◌∙◌, subst}
use Rattle.std.specs.Prelude.{IsSome}
use Rattle.json_text.specs.Moment.{IsMoment}
use Rattle.rule_table.specs.RuleSet.{RuleSet}
use Rattle.router_core.specs.Admitted.{IsAdmitted}
use Rattle.router_requests.specs.Batch.{Batch}
use Rattle.router_core.specs.Replaying.{IsReplayStep}
use Rattle.router_core.specs.Tables.{Tables, is_full, moment_at, after_batch}
use Rattle.replay_run.specs.Replays.{running}
use Rattle.courier_run.specs.Act.{looks, readings_in, book_acts_in, pieces_in, tries_in, bytes_in}
use Rattle.step_run.specs.Act as step
use Rattle.step_run.specs.Step.{full_at, broken_at, broken_by, out_of_memory}
use Rattle.step_run.specs.declared.fault.StepFault.TheVariants.{NumberLimit, Broken, NoMemory}
use Rattle.router_history.specs.declared.book.Machine.{Machine}
use Rattle.router_history.specs.declared.book.Seat.{Seat}
use Rattle.router_history.specs.History.{repeats, Turn, State, state_of, after_ask, IsRepeatBy}
use Rattle.router_history.specs.Book.{turns_of, IsSoundMachine}
use Rattle.router_history.specs.Acts.{Act, StepAct, act_of, Makes}
use Rattle.router_history.specs.Answered.{IsBroken, IsRepeated, HasNoRepeat, IsUnrepeated}
use Rattle.router_history.proofs.ActLemmas.{makes_look, makes_none}
use Rattle.router_history.proofs.BookLemmas.{IsMade, latest, made_book, made_makes, placed_on, turn_by}

-- ---- acts

-- a step of a replay tries nothing
pub tries_none : (acts : List StepAct) → tries_in (map act_of acts) ≡ []
tries_none [] = refl
tries_none (step.ticks reading ∷ acts) = tries_none acts
tries_none (step.looks state ∷ acts) = tries_none acts
tries_none (step.makes p ∷ acts) = tries_none acts
tries_none (step.does none ∷ acts) = absurd none

-- it reads no piece
pub pieces_none : (acts : List StepAct) → pieces_in (map act_of acts) ≡ []
pieces_none [] = refl
pieces_none (step.ticks reading ∷ acts) = pieces_none acts
pieces_none (step.looks state ∷ acts) = pieces_none acts
pieces_none (step.makes p ∷ acts) = pieces_none acts
pieces_none (step.does none ∷ acts) = absurd none

-- and it writes no bytes
pub bytes_none : (acts : List StepAct) → bytes_in (map act_of acts) ≡ []
bytes_none [] = refl
bytes_none (step.ticks reading ∷ acts) = bytes_none acts
bytes_none (step.looks state ∷ acts) = bytes_none acts
bytes_none (step.makes p ∷ acts) = bytes_none acts
bytes_none (step.does none ∷ acts) = absurd none

-- its readings of the clock
pub readings_same : (acts : List StepAct) → readings_in (map act_of acts) ≡ step.readings_in acts
readings_same [] = refl
readings_same (step.ticks reading ∷ acts) = ap (λ (ns : List ℕ). reading ∷ ns) (readings_same acts)
readings_same (step.looks state ∷ acts) = readings_same acts
readings_same (step.makes p ∷ acts) = readings_same acts
readings_same (step.does none ∷ acts) = absurd none

-- its acts on the book
pub book_acts_same : (acts : List StepAct) → book_acts_in (map act_of acts) ≡ map act_of (step.book_acts_in acts)
book_acts_same [] = refl
book_acts_same (step.ticks reading ∷ acts) = book_acts_same acts
book_acts_same (step.looks state ∷ acts) = ap (λ (xs : List Act). act_of (step.looks state) ∷ xs) (book_acts_same acts)
book_acts_same (step.makes p ∷ acts) = ap (λ (xs : List Act). act_of (step.makes p) ∷ xs) (book_acts_same acts)
book_acts_same (step.does none ∷ acts) = absurd none

-- ---- one step

-- a step changes no rule
pub step_keeps_set : (t : Tables) (moment : ℕ) (b : Batch) → IsReplayStep t moment b → (after_batch b t).set ≡ t.set
step_keeps_set t moment b step = ap (λ (x : Batch). (after_batch x t).set) step.is

-- what is known when a step is made
pub record IsRepeating (seat : Seat) (reading : ℕ) (b : Batch) (old new : Machine) (turn : Turn) : Type 0 where
  pub adds : IsMade seat (repeats reading) (Some b) old new turn
  pub at : IsMoment reading
  pub numbered : is_full old.tables ≡ false
  pub unbroken : (state_of (turns_of old)).broken ≡ false
  pub step : IsReplayStep old.tables (moment_at old.tables reading) b
  pub admitted : IsAdmitted old.tables b
  pub tables : new.tables ≡ after_batch b old.tables

repeat_turn : {seat : Seat} {reading : ℕ} {b : Batch} {old new : Machine} {turn : Turn} → IsRepeating seat reading b old new turn
    → IsRepeatBy (state_of (turns_of old)) turn reading
repeat_turn {seat} {reading} {b} {old} {new} {turn} r =
    let here = sym r.adds.kept.tables in
    record {
      by = subst (λ (n : Option ℕ). IsSome n) (sym r.adds.by) refl;
      latest = latest r.adds;
      numbered = subst (λ (t : Tables). is_full t ≡ false) here r.numbered;
      unbroken = r.unbroken;
      at = r.at;
      batch = b;
      step = subst (λ (t : Tables). IsReplayStep t (moment_at t reading) b) here r.step;
      written = r.adds.batch;
    }

pub repeated_book : {seat : Seat} {reading : ℕ} {b : Batch} {old new : Machine} {turn : Turn} → IsRepeating seat reading b old new turn → IsSoundMachine new
repeated_book {seat} {reading} {b} {old} {new} {turn} r =
    let s = state_of (turns_of old) in
    made_book r.adds (repeat_turn r) r.admitted
    (r.tables ∙ ap (after_batch b) (sym r.adds.kept.tables)
    ∙ sym (ap (λ x. (after_ask (record turn { batch = x }) (repeats reading) s).tables) r.adds.batch))

pub repeated : {seat : Seat} {reading : ℕ} {b : Batch} {old new : Machine} {turn : Turn} → IsRepeating seat reading b old new turn
    → IsRepeated seat reading (turns_of old) (turns_of new)
repeated {seat} {reading} {b} {old} {new} {turn} r = record { placed = placed_on old turn; makes = made_makes r.adds; repeats = r.adds.made_for }

-- a step is made by the turn that was added
pub repeating : (seat : Seat) (reading : ℕ) (old new : Machine) (written b : Batch) (k : ℕ) (set : RuleSet) → IsSoundMachine old → IsMoment reading
    → is_full old.tables ≡ false → (state_of (turns_of old)).broken ≡ false → IsReplayStep old.tables (moment_at old.tables reading) b
    → IsAdmitted old.tables b → written ≡ b
    → k ≡ set.count → set ≡ old.tables.set → turns_of new ≡ turns_of old ++ turn_by seat (repeats reading) k (Some written) ∷ []
    → new.tables ≡ after_batch b old.tables → IsRepeating seat reading b old new (turn_by seat (repeats reading) k (Some written))
repeating seat reading old new written b k set h at numbered unbroken step admitted batch k_is set_is turns tables = record {
  adds = record {
    kept = h;
    by = refl;
    connection = refl;
    made_for = refl;
    k = k_is ∙ ap (λ (s : RuleSet). s.count) set_is;
    batch = ap (λ x. Some x) batch;
    turns = turns;
  };
  at = at;
  numbered = numbered;
  unbroken = unbroken;
  step = step;
  admitted = admitted;
  tables = tables;
}

-- ---- no step

-- a look at the book as it is
look_here : (seat : Seat) (m : Machine) → Makes seat (looks (state_of (turns_of m)) ∷ []) (turns_of m) (turns_of m)
look_here seat m = makes_look seat (turns_of m) (turns_of m) (makes_none seat (turns_of m))

-- no replay is running
pub none_running : (seat : Seat) (m : Machine) (reading : ℕ) → IsSoundMachine m → running m.tables.replays ≡ [] → HasNoRepeat seat reading (turns_of m) (turns_of m)
none_running seat m reading h none = (look_here seat m, ap (λ (t : Tables). running t.replays) h.tables ∙ none)

-- one is running, at the number limit
pub repeat_limited : (seat : Seat) (m : Machine) (reading : ℕ) → IsSoundMachine m → is_full m.tables ≡ true → running m.tables.replays ≢ []
    → IsUnrepeated seat reading NumberLimit (turns_of m) (turns_of m)
repeat_limited seat m reading h full some = record {
  acts = step.looks (state_of (turns_of m)) ∷ [];
  makes = look_here seat m;
  refused = full_at (state_of (turns_of m)) (
    subst (λ (t : Tables). is_full t ≡ true) (sym h.tables) full,
    subst (λ (t : Tables). running t.replays ≢ []) (sym h.tables) some,
  );
}

-- one is running, but the book is broken
pub repeat_unkept : (seat : Seat) (m : Machine) (reading : ℕ) → IsSoundMachine m → (state_of (turns_of m)).broken ≡ true → is_full m.tables ≡ false
    → running m.tables.replays ≢ [] → IsUnrepeated seat reading Broken (turns_of m) (turns_of m)
repeat_unkept seat m reading h broken numbered some = record {
  acts = step.looks (state_of (turns_of m)) ∷ [];
  makes = look_here seat m;
  refused = broken_at (state_of (turns_of m)) (
    broken,
    subst (λ (t : Tables). is_full t ≡ false) (sym h.tables) numbered,
    subst (λ (t : Tables). running t.replays ≢ []) (sym h.tables) some,
  );
}

-- memory ran out
pub repeat_lacks : (seat : Seat) (m : Machine) (reading : ℕ) → IsUnrepeated seat reading NoMemory (turns_of m) (turns_of m)
repeat_lacks seat m reading =
    record { acts = step.looks (state_of (turns_of m)) ∷ []; makes = look_here seat m; refused = out_of_memory (state_of (turns_of m)) }

-- the step's append broke the book
pub repeat_broke : (seat : Seat) (m : Machine) (reading : ℕ) (b : Batch) (new : List Turn) → IsSoundMachine m
    → IsReplayStep m.tables (moment_at m.tables reading) b → IsBroken seat b (turns_of m) new → IsUnrepeated seat reading Broken (turns_of m) new
repeat_broke seat m reading b new h is broke =
    let tables : broke.placed.before.tables ≡ m.tables = ap (λ (s : State). s.tables) broke.before ∙ h.tables in
    record {
      acts = step.makes broke.placed ∷ [];
      makes = broke.makes;
      refused = broken_by broke.placed (b, broke.breaking, subst (λ (t : Tables). IsReplayStep t (moment_at t reading) b) (sym tables) is);
    }
