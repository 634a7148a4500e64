-- What each act makes of the state of a duty. The laws cite `first_own`, `first_other`, `one_by_one`, `settled_own`, `settled_other`, `marked_state`,
-- `acts_state`, `acts_fate` and `acts_numbered`; `Duties::counts` cites `sound_numbered`.
use Rattle.std.proofs.Common.{◌≡◌, ◌≢◌, ℕ, ◌+◌, ◌<◌, ◌≤◌, Bool, true, false, cond, eqb, List, [], ◌∷◌, ◌++◌, Option, Some, None, map, refl, sym, ap, ◌∙◌, subst}
use Rattle.std.proofs.Common.{inl, inr, arith}
use Rattle.std.specs.Prelude.{◌⊎◌}
use Rattle.std.specs.Option.{option_map}
use Rattle.std.proofs.lemmas.Bool.{eq-eqb, ne_eqb, eqb-true, eqb-false}
use Rattle.std.proofs.lemmas.List.Elements.{All-contains}
use Rattle.key_tree.specs.Entries.{value_at, placed, without}
use Rattle.key_tree.proofs.EntryLemmas.{value_at-without_same, value_at-without_other}
use Rattle.delivery_duties.specs.declared.duty.NewDuty.{NewDuty}
use Rattle.delivery_duties.specs.declared.duty.DutyRow.{DutyRow}
use Rattle.delivery_duties.specs.declared.outcome.Outcome.{Outcome}
use Rattle.delivery_duties.specs.declared.outcome.Outcome.TheVariants.{Accepted, Code, NoAnswer, NoQueue, TooOld}
use Rattle.delivery_duties.specs.declared.outcome.Fate.{Fate}
use Rattle.delivery_duties.specs.declared.outcome.SettledDuty.{SettledDuty}
use Rattle.delivery_duties.specs.declared.verdict.Verdict.{Verdict}
use Rattle.delivery_duties.specs.declared.verdict.Verdict.TheVariants.{Deliver, Retry, Fail}
use Rattle.delivery_queues.specs.Queues.{Queue}
use Rattle.delivery_duties.specs.Retry.{Attempt, State, waits, ended_with, begun, retried, verdict_of, state_by, after_attempt, after_attempts, first_state}
use Rattle.delivery_duties.specs.Retry.{state_of, fate_of, failed_fate, dead_letter_queue, too_long}
use Rattle.delivery_duties.specs.Duties.{Duties, HasEnded, no_duties, pending_row, replaced, ended_as, failed, dead_lettered, delivered, added, added_one}
use Rattle.delivery_duties.specs.Duties.{has_dead_letter_queue, marked_row, attempt_of, settled_by, settled_row, settled}
use Rattle.delivery_duties.specs.Fate.{Act, adds, claims, releases, settles, creates_queue, forgets_queue, deletes_messages, AreNumbered, after_act, after_acts}
use Rattle.delivery_duties.specs.Fate.{attempts_of, attempts_by, attempts_in, ended_fate, fate_in, shown_state, state_in, unmarked}
use Rattle.delivery_duties.specs.Sound.{IsSound}
use Rattle.delivery_duties.proofs.AnyLemmas.{any_here, any_there}
use Rattle.delivery_duties.proofs.EntryLemmas.{placed_here, placed_other}

same_or_not : (n m : ℕ) → (n ≡ m) ⊎ (n ≢ m)
same_or_not n m = grind arith

-- ---- what a number shows: a pending row, or a fate

-- the number shows the same as before
record IsSame (n : ℕ) (s t : Duties) : Type 0 where
  pub row : pending_row n t ≡ pending_row n s
  pub fate : ended_fate n t.ended ≡ ended_fate n s.ended

same_state : {n : ℕ} {s t : Duties} → IsSame n s t → state_in n t ≡ state_in n s
same_state {n} {s} {t} h =
    ap (λ (r : Option DutyRow). shown_state r (ended_fate n t.ended)) h.row ∙ ap (λ (f : Option Fate). shown_state (pending_row n s) f) h.fate

row_state : (n : ℕ) (s : Duties) (row : DutyRow) → pending_row n s ≡ Some row → state_in n s ≡ Some (waits (unmarked row))
row_state n s row there = ap (λ (r : Option DutyRow). shown_state r (ended_fate n s.ended)) there

-- a number that shows nothing has neither
none_shown : (row : Option DutyRow) (fate : Option Fate) → shown_state row fate ≡ None → (row ≡ None) × (fate ≡ None)
none_shown None None e = (refl, refl)
none_shown None (Some fate) e = absurd (cc)
none_shown (Some row) fate e = absurd (cc)

-- what a number shows is right: a row has the number and no fate, and both are of numbers that are given
record IsRight (n created : ℕ) (row : Option DutyRow) (fate : Option Fate) : Type 0 where
  pub named : (r : DutyRow) → row ≡ Some r → r.number ≡ n
  pub apart : (r : DutyRow) → row ≡ Some r → fate ≡ None
  pub free : created < n → shown_state row fate ≡ None

right_of : {s : Duties} → AreNumbered s → (n : ℕ) → IsRight n s.created (pending_row n s) (ended_fate n s.ended)
right_of h n = record { named = h.named n; apart = h.apart n; free = h.free n }

all_right : {s : Duties} → ((n : ℕ) → IsRight n s.created (pending_row n s) (ended_fate n s.ended)) → AreNumbered s
all_right h = record { named = λ n. (h n).named; apart = λ n. (h n).apart; free = λ n. (h n).free }

right_same : {n : ℕ} {s t : Duties} → IsSame n s t → s.created ≤ t.created → IsRight n s.created (pending_row n s) (ended_fate n s.ended)
    → IsRight n t.created (pending_row n t) (ended_fate n t.ended)
right_same {n} {s} {t} same grown h = record {
  named = λ r e. h.named r (sym same.row ∙ e);
  apart = λ r e. same.fate ∙ h.apart r (sym same.row ∙ e);
  free = λ above. same_state same ∙ h.free (omega (arith, above, grown));
}

-- the number is that of a pending duty
right_row : {n created : ℕ} {row : Option DutyRow} {fate : Option Fate} (r : DutyRow) → row ≡ Some r → fate ≡ None → r.number ≡ n → n ≤ created
    → IsRight n created row fate
right_row {n} r there none named given = record {
  named = λ o e. let same : r ≡ o = cc in sym (ap (λ (x : DutyRow). x.number) same) ∙ named;
  apart = λ o e. none;
  free = λ above. absurd (omega (arith, above, given));
}

-- the number is that of a duty that ended
right_fate : {n created : ℕ} {row : Option DutyRow} {fate : Option Fate} → row ≡ None → n ≤ created → IsRight n created row fate
right_fate none given = record {
  named = λ o e. absurd (cc);
  apart = λ o e. absurd (cc);
  free = λ above. absurd (omega (arith, above, given));
}

-- an act changes what one number shows
record IsStep (k : ℕ) (s t : Duties) : Type 0 where
  pub others : (n : ℕ) → n ≢ k → IsSame n s t
  pub own : IsRight k t.created (pending_row k t) (ended_fate k t.ended)
  pub grown : s.created ≤ t.created

numbered_after : {k : ℕ} {s t : Duties} → IsStep k s t → AreNumbered s → AreNumbered t
numbered_after {k} {s} {t} step h =
    all_right (λ n. elim (same_or_not n k) [
      | inl same ↦ subst (λ m. IsRight m t.created (pending_row m t) (ended_fate m t.ended)) (sym same) step.own
      | inr ne ↦ right_same (step.others n ne) step.grown (right_of h n)
    ])

-- ---- one duty ends

last_fate : (n : ℕ) (ended : List SettledDuty) (d : SettledDuty) → d.number ≡ n → ended_fate n ended ≡ None
    → ended_fate n (ended ++ d ∷ []) ≡ Some d.fate
last_fate n [] d named none = rw (eq-eqb d.number n named) refl
last_fate n (x ∷ xs) d named none =
    (elim (eqb x.number n) as (λ b. cond b (Some x.fate) (ended_fate n xs) ≡ None
    → cond b (Some x.fate) (ended_fate n (xs ++ d ∷ [])) ≡ Some d.fate) [
      | true ↦ λ h. absurd (cc)
      | false ↦ λ h. last_fate n xs d named h
    ]) none

other_fate : (n : ℕ) (ended : List SettledDuty) (d : SettledDuty) → d.number ≢ n → ended_fate n (ended ++ d ∷ []) ≡ ended_fate n ended
other_fate n [] d ne = rw (ne_eqb d.number n ne) refl
other_fate n (x ∷ xs) d ne = ap (λ (f : Option Fate). cond (eqb x.number n) (Some x.fate) f) (other_fate n xs d ne)

turned : {n m : ℕ} → n ≢ m → m ≢ n
turned ne e = ne (sym e)

ends_row : (row : DutyRow) (fate : Fate) (queues : List Queue) (s : Duties) → pending_row row.number (ended_as row fate queues s) ≡ None
ends_row row fate queues s = value_at-without_same row.number s.pending

ends_own : (row : DutyRow) (fate : Fate) (queues : List Queue) (s : Duties) → ended_fate row.number s.ended ≡ None
    → state_in row.number (ended_as row fate queues s) ≡ Some (ended_with fate)
ends_own row fate queues s none =
    let d : SettledDuty = record { number = row.number; fate = fate } in
    ap (λ (r : Option DutyRow). shown_state r (ended_fate row.number (s.ended ++ d ∷ []))) (ends_row row fate queues s)
    ∙ ap (λ (f : Option Fate). shown_state None f) (last_fate row.number s.ended d refl none)

ends_other : (row : DutyRow) (fate : Fate) (queues : List Queue) (s : Duties) (n : ℕ) → n ≢ row.number → IsSame n s (ended_as row fate queues s)
ends_other row fate queues s n ne = record {
  row = value_at-without_other n row.number s.pending (turned ne);
  fate = other_fate n s.ended (record { number = row.number; fate = fate }) (turned ne);
}

ends_step : (row : DutyRow) (fate : Fate) (queues : List Queue) (s : Duties) → row.number ≤ s.created → IsStep row.number s (ended_as row fate queues s)
ends_step row fate queues s given = record {
  others = λ n ne. ends_other row fate queues s n ne;
  own = right_fate (ends_row row fate queues s) given;
  grown = omega arith;
}

-- ---- one pending row changes

back_row : (row : DutyRow) (rows : List (ℕ × DutyRow)) → value_at row.number (replaced row rows) ≡ Some row
back_row row rows = placed_here row.number row (without row.number rows) (value_at-without_same row.number rows)

back_other : (row : DutyRow) (s : Duties) (n : ℕ) → n ≢ row.number → IsSame n s (record s { pending = replaced row s.pending })
back_other row s n ne = record {
  row = placed_other row.number n row (without row.number s.pending) (value_at-without_same row.number s.pending) (turned ne)
      ∙ value_at-without_other n row.number s.pending (turned ne);
  fate = refl;
}

back_step : (row : DutyRow) (s : Duties) → ended_fate row.number s.ended ≡ None → row.number ≤ s.created
    → IsStep row.number s (record s { pending = replaced row s.pending })
back_step row s none given = record {
  others = λ n ne. back_other row s n ne;
  own = right_row row (back_row row s.pending) none refl given;
  grown = omega arith;
}

above_or_not : (a b : ℕ) → (a < b) ⊎ (b ≤ a)
above_or_not a b = grind arith

-- a number that shows a row is given
row_given : {n created : ℕ} {row : Option DutyRow} {fate : Option Fate} (r : DutyRow) → IsRight n created row fate → row ≡ Some r → n ≤ created
row_given {n} {created} {row} {fate} r h there =
    elim (above_or_not created n) [
      | inl above ↦ let none = (none_shown row fate (h.free above)).0 in absurd (cc)
      | inr given ↦ given
    ]

-- ---- a mark

marked_by : (mark : Bool) (o : Option DutyRow) (s : Duties) (n : ℕ) → AreNumbered s → pending_row n s ≡ o
    → ((k : ℕ) → state_in k (marked_row mark o s) ≡ state_in k s) × AreNumbered (marked_row mark o s)
marked_by mark None s n h is = (λ k. refl, h)
marked_by mark (Some row) s n h is =
    let now : DutyRow = record row { claimed = mark } in
    let named : row.number ≡ n = h.named n row is in
    let there : pending_row row.number s ≡ Some row = subst (λ k. pending_row k s ≡ Some row) (sym named) is in
    let right = right_of h row.number in (
      λ k. elim (same_or_not k row.number) [
        | inl same ↦ subst (λ m. state_in m (record s { pending = replaced now s.pending }) ≡ state_in m s) (sym same)
            (row_state row.number (record s { pending = replaced now s.pending }) now (back_row now s.pending) ∙ sym (row_state row.number s row there))
        | inr ne ↦ same_state (back_other now s k ne)
      ],
      numbered_after (back_step now s (right.apart row there) (row_given row right there)) h,
    )

pub marked_state : (mark : Bool) (s : Duties) (n k : ℕ) → AreNumbered s → state_in k (marked_row mark (pending_row n s) s) ≡ state_in k s
marked_state mark s n k h = (marked_by mark (pending_row n s) s n h refl).0 k

marked_numbered : (mark : Bool) (s : Duties) (n : ℕ) → AreNumbered s → AreNumbered (marked_row mark (pending_row n s) s)
marked_numbered mark s n h = (marked_by mark (pending_row n s) s n h refl).1

-- ---- a new duty

-- both ways in which a duty may be added
record IsAdded (s t : Duties) (state : State) : Type 0 where
  pub own : state_in (s.created + 1) t ≡ Some state
  pub step : IsStep (s.created + 1) s t

either : {A B : Type 0} (P : A → B → Type 0) (b : Bool) (x y : A) (v w : B) → P x v → P y w → P (cond b x y) (cond b v w)
either P true x y v w p q = p
either P false x y v w p q = q

added_so : (s : Duties) (duty : NewDuty) (moment : ℕ) → AreNumbered s
    → IsAdded s (added_one duty moment s) (first_state (s.created + 1) moment duty (has_dead_letter_queue duty.target s.queues))
added_so s duty moment h =
    let n : ℕ = s.created + 1 in
    let row : DutyRow = begun n moment duty in
    let more : Duties = record s { created = n } in
    let arn : Option (List ℕ) = dead_letter_queue duty.target (has_dead_letter_queue duty.target s.queues) in
    let t : Duties = record s { created = n; pending = placed (n, row) s.pending } in
    let none = none_shown (pending_row n s) (ended_fate n s.ended) (h.free n (omega arith)) in
    let ends : IsStep n more (failed arn too_long row more) = ends_step row (failed_fate arn) (dead_lettered arn too_long row s.queues) more (omega arith) in
    either (IsAdded s) duty.too_long (failed arn too_long row more) t (ended_with (failed_fate arn)) (waits row)
    (record {
      own = ends_own row (failed_fate arn) (dead_lettered arn too_long row s.queues) more none.1;
      step = record {
        others = λ k ne. record { row = (ends.others k ne).row; fate = (ends.others k ne).fate };
        own = ends.own;
        grown = omega arith;
      };
    })
    (record {
      own = row_state n t row (placed_here n row s.pending none.0);
      step = record {
        others = λ k ne. record { row = placed_other n k row s.pending none.0 (turned ne); fate = refl };
        own = right_row row (placed_here n row s.pending none.0) none.1 refl (omega arith);
        grown = omega arith;
      };
    })

pub first_own : (s : Duties) (duty : NewDuty) (moment : ℕ) → AreNumbered s
    → state_in (s.created + 1) (added_one duty moment s) ≡ Some (first_state (s.created + 1) moment duty (has_dead_letter_queue duty.target s.queues))
first_own s duty moment h = (added_so s duty moment h).own

pub first_other : (s : Duties) (duty : NewDuty) (moment n : ℕ) → AreNumbered s → n ≢ s.created + 1
    → state_in n (added_one duty moment s) ≡ state_in n s
first_other s duty moment n h ne = same_state ((added_so s duty moment h).step.others n ne)

pub one_by_one : (s : Duties) (duties : List NewDuty) (moment : ℕ) → added duties moment s ≡ after_acts (map (λ (duty : NewDuty). adds duty moment) duties) s
one_by_one s [] moment = refl
one_by_one s (duty ∷ duties) moment = one_by_one (added_one duty moment s) duties moment

-- ---- an attempt

verdict_same : (row : DutyRow) (moment : ℕ) (outcome : Outcome) → verdict_of (unmarked row) moment outcome ≡ verdict_of row moment outcome
verdict_same row moment Accepted = refl
verdict_same row moment (Code code) = refl
verdict_same row moment NoAnswer = refl
verdict_same row moment NoQueue = refl
verdict_same row moment TooOld = refl

-- a pending duty after its attempt
record IsTried (row : DutyRow) (s t : Duties) (state : State) : Type 0 where
  pub own : state_in row.number t ≡ Some state
  pub step : IsStep row.number s t

tried : (row : DutyRow) (attempt : Attempt) (verdict : Verdict) (s : Duties) → ended_fate row.number s.ended ≡ None → row.number ≤ s.created
    → IsTried row s (settled_by row attempt verdict s) (state_by (unmarked row) attempt verdict)
tried row attempt Deliver s none given = record {
  own = ends_own row _ (delivered row s.queues) s none;
  step = ends_step row _ (delivered row s.queues) s given;
}
tried row attempt (Retry due) s none given =
    let now : DutyRow = retried due attempt.outcome row in
    let t : Duties = record s { pending = replaced now s.pending } in
    record {
      own = row_state row.number t now (back_row now s.pending);
      step = back_step now s none given;
    }
tried row attempt (Fail failure) s none given =
    let arn : Option (List ℕ) = dead_letter_queue row.duty.target attempt.has_dead_letter_queue in
    record {
      own = ends_own row (failed_fate arn) (dead_lettered arn failure row s.queues) s none;
      step = ends_step row (failed_fate arn) (dead_lettered arn failure row s.queues) s given;
    }

tried_at : (s : Duties) (n moment : ℕ) (outcome : Outcome) (row : DutyRow) → AreNumbered s → pending_row n s ≡ Some row
    → (state_in n (settled n moment outcome s) ≡ Some (after_attempt (waits (unmarked row)) (attempt_of row moment outcome s)))
    × IsStep n s (settled n moment outcome s)
tried_at s n moment outcome row h there =
    let attempt : Attempt = attempt_of row moment outcome s in
    let right = right_of h n in
    let named : row.number ≡ n = h.named n row there in
    let t : Duties = settled_by row attempt (verdict_of row moment outcome) s in
    let made = tried row attempt (verdict_of row moment outcome) s
    (subst (λ k. ended_fate k s.ended ≡ None) (sym named) (right.apart row there))
    (subst (λ k. k ≤ s.created) (sym named) (row_given row right there)) in
    let is : settled n moment outcome s ≡ t = ap (λ (o : Option DutyRow). settled_row o moment outcome s) there in (
      subst (λ (u : Duties). state_in n u ≡ Some (after_attempt (waits (unmarked row)) attempt)) (sym is)
          (subst (λ k. state_in k t ≡ Some (state_by (unmarked row) attempt (verdict_of row moment outcome))) named made.own
          ∙ ap (λ (v : Verdict). Some (state_by (unmarked row) attempt v)) (sym (verdict_same row moment outcome))),
      subst (λ (u : Duties). IsStep n s u) (sym is) (subst (λ k. IsStep k s t) named made.step),
    )

pub settled_own : (s : Duties) (n moment : ℕ) (outcome : Outcome) (row : DutyRow) → AreNumbered s → pending_row n s ≡ Some row
    → state_in n (settled n moment outcome s) ≡ Some (after_attempt (waits (unmarked row)) (attempt_of row moment outcome s))
settled_own s n moment outcome row h there = (tried_at s n moment outcome row h there).0

-- the duty of this number is pending, or nothing changes
settled_so : (s : Duties) (n moment : ℕ) (outcome : Outcome) (o : Option DutyRow) → AreNumbered s → pending_row n s ≡ o
    → ((k : ℕ) → k ≢ n → state_in k (settled n moment outcome s) ≡ state_in k s) × AreNumbered (settled n moment outcome s)
settled_so s n moment outcome None h is =
    let same : settled n moment outcome s ≡ s = ap (λ (o : Option DutyRow). settled_row o moment outcome s) is in
    (λ k ne. ap (state_in k) same, subst AreNumbered (sym same) h)
settled_so s n moment outcome (Some row) h is =
    let step = (tried_at s n moment outcome row h is).1 in
    (λ k ne. same_state (step.others k ne), numbered_after step h)

pub settled_other : (s : Duties) (n moment : ℕ) (outcome : Outcome) (other : ℕ) → AreNumbered s → other ≢ n
    → state_in other (settled n moment outcome s) ≡ state_in other s
settled_other s n moment outcome other h ne = (settled_so s n moment outcome (pending_row n s) h refl).0 other ne

-- ---- acts

act_numbered : (act : Act) (s : Duties) → AreNumbered s → AreNumbered (after_act act s)
act_numbered (adds duty moment) s h = numbered_after (added_so s duty moment h).step h
act_numbered (claims n) s h = marked_numbered true s n h
act_numbered (releases n) s h = marked_numbered false s n h
act_numbered (settles n moment outcome) s h = (settled_so s n moment outcome (pending_row n s) h refl).1
act_numbered (creates_queue name) s h = record { named = h.named; apart = h.apart; free = h.free }
act_numbered (forgets_queue name) s h = record { named = h.named; apart = h.apart; free = h.free }
act_numbered (deletes_messages queue through) s h = record { named = h.named; apart = h.apart; free = h.free }

-- the state after the attempt of a settled duty, if it is pending
settled_attempts : (s : Duties) (n moment : ℕ) (outcome : Outcome) (state : State) (o : Option DutyRow) → AreNumbered s → pending_row n s ≡ o
    → state_in n s ≡ Some state → state_in n (settled n moment outcome s) ≡ Some (after_attempts state (attempts_of o moment outcome s))
settled_attempts s n moment outcome state None h is e =
    let same : settled n moment outcome s ≡ s = ap (λ (o : Option DutyRow). settled_row o moment outcome s) is in
    ap (state_in n) same ∙ e
settled_attempts s n moment outcome state (Some row) h is e =
    let attempt : Attempt = attempt_of row moment outcome s in
    let both : Some (waits (unmarked row)) ≡ Some state = sym (row_state n s row is) ∙ e in
    let one : waits (unmarked row) ≡ state = cc in
    settled_own s n moment outcome row h is ∙ ap (λ (x : State). Some (after_attempt x attempt)) one

act_state : (act : Act) (s : Duties) (n : ℕ) (state : State) → AreNumbered s → state_in n s ≡ Some state
    → state_in n (after_act act s) ≡ Some (after_attempts state (attempts_by n act s))
act_state (adds duty moment) s n state h e =
    let ne : n ≢ s.created + 1 = λ same.
    let none : state_in n s ≡ None = h.free n (omega (arith, same)) in
    absurd (cc) in
    first_other s duty moment n h ne ∙ e
act_state (claims k) s n state h e = marked_state true s k n h ∙ e
act_state (releases k) s n state h e = marked_state false s k n h ∙ e
act_state (settles k moment outcome) s n state h e =
    (elim (eqb k n) as (λ b. eqb k n ≡ b → state_in n (settled k moment outcome s)
    ≡ Some (after_attempts state (cond b (attempts_of (pending_row k s) moment outcome s) []))) [
      | true ↦ λ i.
          let same : k ≡ n = eqb-true k n i in
          subst (λ m. state_in m (settled k moment outcome s) ≡ Some (after_attempts state (attempts_of (pending_row k s) moment outcome s))) same
          (settled_attempts s k moment outcome state (pending_row k s) h refl (subst (λ m. state_in m s ≡ Some state) (sym same) e))
      | false ↦ λ i. settled_other s k moment outcome n h (turned (eqb-false k n i)) ∙ e
    ]) refl
act_state (creates_queue name) s n state h e = e
act_state (forgets_queue name) s n state h e = e
act_state (deletes_messages queue through) s n state h e = e

attempts_append : (state : State) (xs ys : List Attempt) → after_attempts state (xs ++ ys) ≡ after_attempts (after_attempts state xs) ys
attempts_append state [] ys = refl
attempts_append state (x ∷ xs) ys = attempts_append (after_attempt state x) xs ys

pub acts_state : (s : Duties) (n : ℕ) (state : State) (acts : List Act) → AreNumbered s → state_in n s ≡ Some state
    → state_in n (after_acts acts s) ≡ Some (after_attempts state (attempts_in n acts s))
acts_state s n state [] h e = e
acts_state s n state (act ∷ acts) h e =
    let first : List Attempt = attempts_by n act s in
    acts_state (after_act act s) n (after_attempts state first) acts (act_numbered act s h) (act_state act s n state h e)
    ∙ ap (λ (x : State). Some x) (sym (attempts_append state first (attempts_in n acts (after_act act s))))

pub acts_fate : (s : Duties) (duty : NewDuty) (moment : ℕ) (acts : List Act) → AreNumbered s
    → fate_in (s.created + 1) (after_acts acts (added_one duty moment s))
    ≡ Some (fate_of (state_of (s.created + 1) moment duty (has_dead_letter_queue duty.target s.queues)
    (attempts_in (s.created + 1) acts (added_one duty moment s))))
acts_fate s duty moment acts h =
    let n : ℕ = s.created + 1 in
    let first : State = first_state n moment duty (has_dead_letter_queue duty.target s.queues) in
    ap (option_map fate_of) (acts_state (added_one duty moment s) n first acts (act_numbered (adds duty moment) s h) (first_own s duty moment h))

numbered_from : (acts : List Act) (s : Duties) → AreNumbered s → AreNumbered (after_acts acts s)
numbered_from [] s h = h
numbered_from (act ∷ acts) s h = numbered_from acts (after_act act s) (act_numbered act s h)

pub acts_numbered : (acts : List Act) → AreNumbered (after_acts acts no_duties)
acts_numbered acts = numbered_from acts no_duties (record { named = λ n row e. absurd (cc); apart = λ n row e. absurd (cc); free = λ n above. refl })

-- ---- duties that calls made

fate_found : (n : ℕ) (ended : List SettledDuty) (fate : Fate) → ended_fate n ended ≡ Some fate → HasEnded n ended
fate_found n [] fate e = absurd (cc)
fate_found n (d ∷ ds) fate e =
    let P : SettledDuty → Type 0 = λ x. x.number ≡ n in
    (elim (eqb d.number n) as (λ b. eqb d.number n ≡ b → cond b (Some d.fate) (ended_fate n ds) ≡ Some fate → HasEnded n (d ∷ ds)) [
      | true ↦ λ i _. any_here P d ds (eqb-true d.number n i)
      | false ↦ λ _ h. any_there P d ds (fate_found n ds fate h)
    ]) refl e

-- an option that has no value is none
no_value : {X : Type 0} (o : Option X) → ((x : X) → o ≡ Some x → ⊥) → o ≡ None
no_value None h = refl
no_value (Some x) h = absurd (h x refl)

pub sound_numbered : {s : Duties} → IsSound s → AreNumbered s
sound_numbered {s} h = record {
  named = h.named;
  apart = λ n row is. no_value (ended_fate n s.ended) (λ fate e. h.accounted.apart n (row, is) (fate_found n s.ended fate e));
  free = λ n above.
      let row : pending_row n s ≡ None = no_value (pending_row n s) (λ r e. let given = h.accounted.made n (r, e) in omega (arith, above, given)) in
      let fate : ended_fate n s.ended ≡ None =
      no_value (ended_fate n s.ended) (λ f e. let (k, d, l, is, named) = fate_found n s.ended f e in
      let given : d.number ≤ s.created = All-contains (λ (x : SettledDuty). x.number ≤ s.created) s.ended d h.accounted.given (k, l, is) in
      omega (arith, above, given, named)) in
      ap (λ (r : Option DutyRow). shown_state r (ended_fate n s.ended)) row ∙ ap (λ (f : Option Fate). shown_state None f) fate;
}
