-- Whether tables admit a start, a step or a cancellation: `start_decided`, `range_decided`, `next_here`, `next_ended`, `next_missing`,
-- `step_from`, `step_to`, `cancel_here`, `cancel_ended`, `cancel_missing`.
use Rattle.std.proofs.Common.{◌≡◌, ◌≢◌, ◌==◌, ◌↔◌, ℕ, ◌<◌, ◌≤◌, Bool, true, false, cond, List, ◌∷◌, length, Option, Some, None, refl, sym, ap, ◌∙◌, subst, arith}
use Rattle.std.specs.Prelude.{All, IsTrue, IfSome, ◌&&◌, nat_le}
use Rattle.std.proofs.lemmas.Bool.{false≢true, eqb-true, eq-eqb}
use Rattle.std.proofs.lemmas.Bool.Decides.{nat_tests}
use Rattle.json_text.specs.Limits.{most_text}
use Rattle.json_text.specs.Moment.{IsMoment}
use Rattle.event_shape.specs.Names.{IsShortName}
use Rattle.archive_keep.specs.declared.event_ref.KeptEvent.{KeptEvent}
use Rattle.rule_table.specs.RuleSet.{has_archive}
use Rattle.delivery_duties.specs.declared.duty.NewDuty.{NewDuty}
use Rattle.replay_run.specs.declared.row.ReplayRow.{ReplayRow}
use Rattle.replay_run.specs.declared.state.ReplayState.{ReplayState}
use Rattle.replay_run.specs.declared.state.ReplayState.TheVariants.{Running}
use Rattle.replay_run.specs.Replay.{replay_state}
use Rattle.replay_run.specs.Replays.{found, if_running, is_running, is_running_state, most_running, running, running_named}
use Rattle.replay_run.proofs.ReplaysLemmas.{runs_state}
use Rattle.router_requests.specs.declared.batch.StartedReplay.{StartedReplay}
use Rattle.router_requests.specs.Batch.{Stepped}
use Rattle.router_core.specs.Tables.{Tables}
use Rattle.router_core.specs.Admitted.{IsStartAdmitted, IsStepAdmitted}
use Rattle.duty_journal.specs.Redo.{IsNextOfReplay}

both_true : (a b : Bool) → (a && b) ≡ true → (a ≡ true) × (b ≡ true)
both_true true b h = (refl, h)
both_true false b h = absurd (false≢true h)

all_true : (a b : Bool) → a ≡ true → b ≡ true → (a && b) ≡ true
all_true a b h i = rw h i

-- what six tests decide of a start
pub start_decided : (t : Tables) (s : StartedReplay) (named filtered ranged fresh kept room : Bool) → IsTrue named ↔ IsShortName s.name
    → IsTrue filtered ↔ IfSome s.rules (All IsShortName)
    → IsTrue ranged ↔ (IsMoment s.range.start × (IsMoment s.range.end × (s.range.start ≤ s.range.end))) → IsTrue fresh ↔ (found s.name t.replays ≡ None)
    → kept ≡ has_archive s.archive t.set → IsTrue room ↔ (length (running t.replays) < most_running)
    → IsTrue (((((named && filtered) && ranged) && fresh) && kept) && room) ↔ IsStartAdmitted t s
start_decided t s named filtered ranged fresh kept room n f r u k p = (
  (λ yes.
      let (a, room_so) = both_true ((((named && filtered) && ranged) && fresh) && kept) room yes in
      let (b, kept_so) = both_true (((named && filtered) && ranged) && fresh) kept a in
      let (d, fresh_so) = both_true ((named && filtered) && ranged) fresh b in
      let (e, ranged_so) = both_true (named && filtered) ranged d in
      let (named_so, filtered_so) = both_true named filtered e in
      let range = r.0 ranged_so in
      record {
        name = n.0 named_so;
        new = u.0 fresh_so;
        archive = sym k ∙ kept_so;
        start = range.0;
        end = range.1.0;
        order = range.1.1;
        few = p.0 room_so;
        rules = f.0 filtered_so;
      }),
  (λ (a : IsStartAdmitted t s).
      all_true ((((named && filtered) && ranged) && fresh) && kept) room
      (all_true (((named && filtered) && ranged) && fresh) kept
      (all_true ((named && filtered) && ranged) fresh
      (all_true (named && filtered) ranged (all_true named filtered (n.1 a.name) (f.1 a.rules)) (r.1 (a.start, (a.end, a.order))))
      (u.1 a.new))
      (k ∙ a.archive))
      (p.1 a.few)),
)

-- a running replay of a name
named_running : (o : Option ReplayRow) (row : ReplayRow) → if_running o ≡ Some row → (o ≡ Some row) × (is_running row ≡ true)
named_running None row is = absurd (cc)
named_running (Some r) row is =
    (elim (is_running r) as (λ b. is_running r ≡ b → cond b (Some r) None ≡ Some row → (Some r ≡ Some row) × (is_running row ≡ true)) [
      | true ↦ λ e h. let same : r ≡ row = cc in (ap (λ x. Some x) same, subst (λ (x : ReplayRow). is_running x ≡ true) same e)
      | false ↦ λ e h. absurd (cc)
    ]) refl is

running_is : (t : Tables) (name : List ℕ) (row : ReplayRow) → found name t.replays ≡ Some row → is_running row ≡ true → running_named name t.replays ≡ Some row
running_is t name row there runs = ap if_running there ∙ ap (λ b. cond b (Some row) None) runs

in_state : (s : ReplayState) → s ≡ Running → is_running_state s ≡ true
in_state s is = ap is_running_state is

-- the replay of the name has this next event
pub next_here : (t : Tables) (name : List ℕ) (number : ℕ) (row : ReplayRow) (e : KeptEvent) (shown : ℕ) → found name t.replays ≡ Some row
    → (rest : List KeptEvent) × (row.replay.left ≡ e ∷ rest) → replay_state row.replay ≡ Running → shown ≡ e.number
    → IsTrue (shown == number) ↔ IsNextOfReplay t name number
next_here t name number row e shown there (rest, left) runs is = (
  (λ yes. record {
    row = row;
    runs = running_is t name row there (in_state (replay_state row.replay) runs);
    event = e;
    rest = rest;
    next = left;
    number_is = sym (eqb-true shown number yes) ∙ is;
  }),
  (λ (h : IsNextOfReplay t name number).
      let (named_so, on) = named_running (found name t.replays) h.row h.runs in
      let same : h.row ≡ row = (let both : Some h.row ≡ Some row = sym named_so ∙ there in cc) in
      let both : h.event ∷ h.rest ≡ e ∷ rest = sym h.next ∙ ap (λ (r : ReplayRow). r.replay.left) same ∙ left in
      let own : h.event ≡ e = cc in
      eq-eqb shown number (is ∙ ap (λ (k : KeptEvent). k.number) (sym own) ∙ sym h.number_is)),
)

-- the replay of the name is not running
pub next_ended : (t : Tables) (name : List ℕ) (number : ℕ) (row : ReplayRow) → found name t.replays ≡ Some row → replay_state row.replay ≢ Running
    → IsNextOfReplay t name number → ⊥
next_ended t name number row there ended h =
    let (named_so, on) = named_running (found name t.replays) h.row h.runs in
    let same : h.row ≡ row = (let both : Some h.row ≡ Some row = sym named_so ∙ there in cc) in
    ended (runs_state row (subst (λ (r : ReplayRow). is_running r ≡ true) same on))

-- there is no replay of the name
pub next_missing : (t : Tables) (name : List ℕ) (number : ℕ) → found name t.replays ≡ None → IsNextOfReplay t name number → ⊥
next_missing t name number none h = let never : None ≡ Some h.row = sym (ap if_running none) ∙ h.runs in cc

pub step_from : (t : Tables) (s : Stepped) → IsNextOfReplay t s.name s.event → length s.duties ≤ 1500
    → All (λ (d : NewDuty). length d.text ≤ most_text) s.duties → IsStepAdmitted t s
step_from t s h few short = record {
  row = h.row;
  runs = h.runs;
  event = h.event;
  rest = h.rest;
  next = h.next;
  number = h.number_is;
  few = few;
  short = short;
}

pub step_to : (t : Tables) (s : Stepped) → IsStepAdmitted t s → IsNextOfReplay t s.name s.event
step_to t s a = record { row = a.row; runs = a.runs; event = a.event; rest = a.rest; next = a.next; number_is = a.number }

-- a cancellation
pub cancel_here : (t : Tables) (name : List ℕ) (row : ReplayRow) → found name t.replays ≡ Some row → is_running row ≡ true
    → (r : ReplayRow) × (running_named name t.replays ≡ Some r)
cancel_here t name row there runs = (row, running_is t name row there runs)

pub cancel_ended : (t : Tables) (name : List ℕ) (row : ReplayRow) → found name t.replays ≡ Some row → is_running row ≡ false
    → (r : ReplayRow) × (running_named name t.replays ≡ Some r) → ⊥
cancel_ended t name row there ended (r, named_so) =
    let (found_so, on) = named_running (found name t.replays) r named_so in
    let same : r ≡ row = (let both : Some r ≡ Some row = sym found_so ∙ there in cc) in
    false≢true (sym ended ∙ subst (λ (x : ReplayRow). is_running x ≡ true) same on)

pub cancel_missing : (t : Tables) (name : List ℕ) → found name t.replays ≡ None → (r : ReplayRow) × (running_named name t.replays ≡ Some r) → ⊥
cancel_missing t name none (r, named_so) = let never : None ≡ Some r = sym (ap if_running none) ∙ named_so in cc

-- the tests of a range
pub range_decided : (start end : ℕ) → IsTrue (nat_le start end && nat_le end 250_000_000_000) ↔ (IsMoment start × (IsMoment end × (start ≤ end)))
range_decided start end = (
  (λ yes.
      let (order, last) = both_true (nat_le start end) (nat_le end 250_000_000_000) yes in
      let before : start ≤ end = at_most start end order in
      let fits : end ≤ 250_000_000_000 = at_most end 250_000_000_000 last in
      (omega (arith, before, fits), (fits, before))),
  (λ h. all_true (nat_le start end) (nat_le end 250_000_000_000) (test start end h.1.1) (test end 250_000_000_000 h.1.0)),
)
  where
    at_most : (m n : ℕ) → nat_le m n ≡ true → m ≤ n
    at_most m n h = grind (arith, nat_tests)

    test : (m n : ℕ) → m ≤ n → nat_le m n ≡ true
    test m n h = grind (arith, nat_tests)
