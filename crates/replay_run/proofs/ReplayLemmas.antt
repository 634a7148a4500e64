-- Replays: what a state says (`running_in`, `completed_in`), soundness after one act (`advanced_sound`, `cancelled_sound`), and the two laws
-- over acts (`acts_front`, `acts_all`).
use Rattle.std.proofs.Common.{◌≡◌, ◌==◌, ℕ, ◌+◌, ◌<◌, Bool, true, false, cond, List, [], ◌∷◌, ◌++◌, length, refl, sym, ap, ◌∙◌, subst, arith}
use Rattle.std.proofs.lemmas.Bool.{eqb-true, eqb-false}
use Rattle.std.proofs.lemmas.Bool.Decides.{nat_tests}
use Rattle.archive_keep.specs.declared.event_ref.KeptEvent.{KeptEvent}
use Rattle.replay_run.specs.declared.state.ReplayState.{ReplayState}
use Rattle.replay_run.specs.declared.state.ReplayState.TheVariants.{Running, Completed, Cancelled}
use Rattle.replay_run.specs.Replay.{Replay, new_replay, replay_state, after_event, advanced_by, after_cancellation, ReplayAct, repeats, cancels, after_act_in, after_acts, event_of_in, events_in, first_of_these, IsSoundIf, IsSound}

abbrev state_in : Bool → Bool → ReplayState
state_in b c = cond b Cancelled (cond c Completed Running)

pub running_in : (b c : Bool) → state_in b c ≡ Running → (b ≡ false) × (c ≡ false)
running_in true c h = absurd (cc)
running_in false true h = absurd (cc)
running_in false false h = (refl, refl)

pub completed_in : (b c : Bool) → state_in b c ≡ Completed → (b ≡ false) × (c ≡ true)
completed_in true c h = absurd (cc)
completed_in false true h = (refl, refl)
completed_in false false h = absurd (cc)

equal_test : (m n : ℕ) → m ≡ n → (m == n) ≡ true
equal_test m n h = grind (arith, nat_tests)

no_length : (xs : List KeptEvent) → length xs ≡ 0 → xs ≡ []
no_length [] h = refl
no_length (x ∷ xs) h = absurd (omega (arith, h))

-- a running replay was not cancelled, and has something left
pub running_left : (r : Replay) → IsSound r → replay_state r ≡ Running → (r.cancelled ≡ false) × (length r.left + r.repeated ≡ r.selected) × (r.repeated < r.selected)
running_left r sound runs =
    let (open_, more) = running_in r.cancelled (r.repeated == r.selected) runs in
    let all : length r.left + r.repeated ≡ r.selected = subst (λ b. IsSoundIf b r) open_ sound in
    let apart : r.repeated ≡ r.selected → ⊥ = eqb-false r.repeated r.selected more in
    (open_, all, omega (arith, all, apart))

pub advanced_sound : (r : Replay) (e : KeptEvent) (es : List KeptEvent) → IsSound r → replay_state r ≡ Running → r.left ≡ e ∷ es → IsSound (after_event e es r)
advanced_sound r e es sound runs is =
    let (open_, all, more) = running_left r sound runs in
    let new = after_event e es r in
    let now : IsSoundIf false new = omega (arith, all, ap (length {A = KeptEvent}) is) in
    subst (λ b. IsSoundIf b new) (sym open_) now

pub cancelled_sound : (r : Replay) → IsSound r → replay_state r ≡ Running → IsSound (after_cancellation r)
cancelled_sound r sound runs = let (open_, all, more) = running_left r sound runs in (refl, more)

nil_front : (xs ys : List KeptEvent) → [] ≡ xs ++ ys → xs ≡ []
nil_front [] ys h = refl
nil_front (x ∷ xs) ys h = absurd (cc)

abbrev Front : List ReplayAct → Replay → Type 0
Front acts r = (rest : List KeptEvent) × (r.left ≡ events_in acts r ++ rest)

front_step : (acts : List ReplayAct) (left : List KeptEvent) (r : Replay) → ((new : Replay) → Front acts new) → r.left ≡ left
    → (rest : List KeptEvent) × (r.left ≡ (first_of_these left ++ events_in acts (advanced_by left r)) ++ rest)
front_step acts [] r more is = more r
front_step acts (e ∷ es) r more is =
    let (rest, same) = more (after_event e es r) in
    (rest, is ∙ ap (λ zs. e ∷ zs) same)

front_in : (s : ReplayState) (act : ReplayAct) (acts : List ReplayAct) (r : Replay) → ((new : Replay) → Front acts new)
    → (rest : List KeptEvent) × (r.left ≡ (event_of_in s act r ++ events_in acts (after_act_in s act r)) ++ rest)
front_in Running repeats acts r more = front_step acts r.left r more refl
front_in Running cancels acts r more =
    let (rest, same) = more (after_cancellation r) in
    let none = nil_front (events_in acts (after_cancellation r)) rest same in
    (r.left, ap (λ zs. zs ++ r.left) (sym none))
front_in Completed act acts r more = more r
front_in Cancelled act acts r more = more r

pub acts_front : (acts : List ReplayAct) (r : Replay) → Front acts r
acts_front [] r = (r.left, refl)
acts_front (act ∷ acts) r = front_in (replay_state r) act acts r (acts_front acts)

record Ends (acts : List ReplayAct) (r : Replay) : Type 0 where
  all : r.cancelled ≡ false → events_in acts r ≡ r.left → replay_state (after_acts acts r) ≡ Completed
  back : replay_state (after_acts acts r) ≡ Completed → (events_in acts r ≡ r.left) × (r.cancelled ≡ false)

ends_now : (r : Replay) → IsSound r → Ends [] r
ends_now r sound = record {
  all = λ open_ none.
      let now : length r.left + r.repeated ≡ r.selected = subst (λ b. IsSoundIf b r) open_ sound in
      let same : r.repeated ≡ r.selected = omega (arith, now, ap (length {A = KeptEvent}) none) in
      let test = equal_test r.repeated r.selected same in
      ap (λ b. state_in b (r.repeated == r.selected)) open_ ∙ ap (λ b. state_in false b) test;
  back = λ done.
      let (open_, test) = completed_in r.cancelled (r.repeated == r.selected) done in
      let now : length r.left + r.repeated ≡ r.selected = subst (λ b. IsSoundIf b r) open_ sound in
      let same : r.repeated ≡ r.selected = eqb-true r.repeated r.selected test in
      (sym (no_length r.left (omega (arith, now, same))), open_);
}

-- the acts in a state of the replay
abbrev EndsIn : ReplayState → ReplayAct → List ReplayAct → Replay → Type 0
EndsIn s act acts r =
    (r.cancelled ≡ false → event_of_in s act r ++ events_in acts (after_act_in s act r) ≡ r.left → replay_state (after_acts acts (after_act_in s act r)) ≡ Completed)
    × (replay_state (after_acts acts (after_act_in s act r)) ≡ Completed → (event_of_in s act r ++ events_in acts (after_act_in s act r) ≡ r.left) × (r.cancelled ≡ false))

ends_step : (acts : List ReplayAct) (left : List KeptEvent) (r : Replay) → ((new : Replay) → IsSound new → Ends acts new) → IsSound r → replay_state r ≡ Running
    → r.left ≡ left
    → (r.cancelled ≡ false → first_of_these left ++ events_in acts (advanced_by left r) ≡ r.left → replay_state (after_acts acts (advanced_by left r)) ≡ Completed)
    × (replay_state (after_acts acts (advanced_by left r)) ≡ Completed
    → (first_of_these left ++ events_in acts (advanced_by left r) ≡ r.left) × (r.cancelled ≡ false))
ends_step acts [] r more sound runs is = let h = more r sound in (h.all, h.back)
ends_step acts (e ∷ es) r more sound runs is =
    let new = after_event e es r in
    let h = more new (advanced_sound r e es sound runs is) in (
      (λ open_ same.
          let both : e ∷ events_in acts new ≡ e ∷ es = same ∙ is in
          h.all open_ (cc)),
      (λ done. let (same, open_) = h.back done in (ap (λ zs. e ∷ zs) same ∙ sym is, open_)),
    )

ends_in : (s : ReplayState) (act : ReplayAct) (acts : List ReplayAct) (r : Replay) → ((new : Replay) → IsSound new → Ends acts new) → IsSound r → replay_state r ≡ s
    → EndsIn s act acts r
ends_in Running repeats acts r more sound runs = ends_step acts r.left r more sound runs refl
ends_in Running cancels acts r more sound runs =
    let h = more (after_cancellation r) (cancelled_sound r sound runs) in
    let (rest, front) = acts_front acts (after_cancellation r) in
    let none : events_in acts (after_cancellation r) ≡ [] = nil_front (events_in acts (after_cancellation r)) rest front in
    let (open_, all, some) = running_left r sound runs in (
      (λ _ same. absurd (omega (arith, all, some, ap (length {A = KeptEvent}) (sym none ∙ same)))),
      (λ done. let (same, never) = h.back done in let no : true ≡ false = never in absurd (cc)),
    )
ends_in Completed act acts r more sound ends = let h = more r sound in (h.all, h.back)
ends_in Cancelled act acts r more sound ends = let h = more r sound in (h.all, h.back)

ends : (acts : List ReplayAct) (r : Replay) → IsSound r → Ends acts r
ends [] r sound = ends_now r sound
ends (act ∷ acts) r sound =
    let both = ends_in (replay_state r) act acts r (ends acts) sound refl in
    record { all = both.0; back = both.1 }

pub acts_all : (selection : List KeptEvent) (acts : List ReplayAct)
    → ((events_in acts (new_replay selection) ≡ selection) → (replay_state (after_acts acts (new_replay selection)) ≡ Completed))
    × ((replay_state (after_acts acts (new_replay selection)) ≡ Completed) → (events_in acts (new_replay selection) ≡ selection))
acts_all selection acts =
    let h = ends acts (new_replay selection) (omega arith) in
    ((λ same. h.all refl same), (λ done. (h.back done).0))
