-- What the calls of `Duties` ensure: `sound_created`, `sound_forgotten`, `sound_claimed`, `claimed_out`, `claims_keep`, `one_fate`, `has_found`,
-- `queue_decides`.
use Rattle.std.proofs.Common.{◌≡◌, ◌≢◌, ℕ, ◌+◌, ◌<◌, ◌≤◌, ◌^◌, Bool, true, false, cond, List, [], ◌∷◌, ◌++◌, Option, Some, None, length, refl, sym, ap, ◌∙◌, subst, inl, inr, arith, codes}
use Rattle.std.specs.Prelude.{All, Any, ◌⊎◌, ◌↔◌, IsTrue, MatchOption, is_some}
use Rattle.std.specs.Str.{bytes_eq}
use Rattle.std.proofs.lemmas.List.{append_cancel_left}
use Rattle.std.proofs.lemmas.List.Elements.{All-nil, All-cons, All-head, All-tail, All-contains, All-weaker}
use Rattle.std.proofs.lemmas.Slice.Eq.{bytes_eq-Decides}
use Rattle.event_shape.specs.Names.{queue_arn}
use Rattle.name_rows.specs.Rows as rows
use Rattle.name_rows.proofs.RowLemmas.{All_placed}
use Rattle.key_tree.specs.Entries.{value_at, placed, without}
use Rattle.key_tree.proofs.EntryLemmas.{value_at-without_same, without_none, others}
use Rattle.delivery_duties.specs.declared.duty.DutyRow.{DutyRow}
use Rattle.delivery_duties.specs.declared.outcome.SettledDuty.{SettledDuty}
use Rattle.delivery_duties.specs.declared.outcome.Fate.TheVariants.{Pending}
use Rattle.delivery_queues.specs.Queues.{Queue, deleted_through, is_named, without_through, sent_to, name_of, keeping, empty_queue, has_queue, has_arn, with_next, changed_first, IsArnOfOne}
use Rattle.delivery_duties.specs.Duties.{Duties, HasOneFate, replaced, dead_lettered, dead_letter_of, failed, added_one, has_dead_letter_queue}
use Rattle.delivery_duties.specs.Retry.{failed_fate, begun, too_long, dead_letter_queue}
use Rattle.delivery_duties.specs.declared.duty.NewDuty.{NewDuty}
use Rattle.delivery_duties.specs.declared.outcome.Fate.{Fate}
use Rattle.delivery_queues.specs.declared.stored.DeadLetter.{DeadLetter}
use Rattle.delivery_queues.specs.declared.failure.Failure.{Failure}
use Rattle.delivery_duties.specs.Order.{ClaimsIn, IsOutIn}
use Rattle.delivery_duties.specs.Sound.{IsSound, IsQueueWithin}
use Rattle.delivery_duties.proofs.AnyLemmas.{any_here, any_there, any_cases}
use Rattle.delivery_duties.proofs.EntryLemmas.{placed_here, placed_kept, removed_kept, length-removed}
use Rattle.delivery_duties.proofs.SoundLemmas.{sound_queues, sound_replaced, unused}

pub sound_created : {s : Duties} (queue : Queue) (name : List ℕ) (queues : List Queue) → IsSound s → queue ≡ empty_queue name
    → queues ≡ rows.placed name_of keeping queue s.queues → IsSound (record s { queues = queues })
sound_created {s} queue name queues h is e =
    let P : Queue → Type 0 = IsQueueWithin (length s.ended) in
    let new : P queue = subst P (sym is) (omega arith) in
    sound_queues queues h (subst (All P) (sym e) (All_placed P name_of keeping queue s.queues new (λ old p. p) h.queues_within))

All_less : (P : Queue → Type 0) (name : List ℕ) (ms : List Queue) → All P ms → All P (rows.without name_of name ms)
All_less P name [] a = a
All_less P name (m ∷ ms) a =
    let rest = All_less P name ms (All-tail P m ms a) in
    elim (bytes_eq m.name name) as (λ b. All P (cond b (rows.without name_of name ms) (m ∷ rows.without name_of name ms))) [
      | true ↦ rest
      | false ↦ All-cons P m (rows.without name_of name ms) (All-head P m ms a) rest
    ]

pub sound_forgotten : {s : Duties} (name : List ℕ) (queues : List Queue) → IsSound s → queues ≡ rows.without name_of name s.queues
    → IsSound (record s { queues = queues })
sound_forgotten {s} name queues h e =
    let P : Queue → Type 0 = IsQueueWithin (length s.ended) in
    sound_queues queues h (subst (All P) (sym e) (All_less P name s.queues h.queues_within))

-- the row that is replaced has its key's number
replaced_at : {s : Duties} (n : ℕ) (row now : DutyRow) (new : List (ℕ × DutyRow)) → IsSound s → value_at n s.pending ≡ Some row → now.number ≡ row.number
    → new ≡ replaced now s.pending → new ≡ placed (n, now) (without n s.pending)
replaced_at {s} n row now new h there same e =
    subst (λ k. new ≡ placed (k, now) (without k s.pending)) (same ∙ h.named n row there) e

pub sound_claimed : {s : Duties} (n : ℕ) (new : List (ℕ × DutyRow)) → IsSound s → ClaimsIn n s.pending new → IsSound (record s { pending = new })
sound_claimed {s} n new h (row, there, e) =
    sound_replaced n row (record row { claimed = true }) new h there (h.named n row there)
    (replaced_at {s = s} n row (record row { claimed = true }) new h there refl e)

pub claimed_out : {s : Duties} (n : ℕ) (new : List (ℕ × DutyRow)) → IsSound s → ClaimsIn n s.pending new → IsOutIn n new
claimed_out {s} n new h (row, there, e) =
    let now : DutyRow = record row { claimed = true } in (
      now,
      subst (λ rs. value_at n rs ≡ Some now) (sym (replaced_at {s = s} n row now new h there refl e))
          (placed_here n now (without n s.pending) (value_at-without_same n s.pending)),
      refl,
    )

same_or_not : (n m : ℕ) → (n ≡ m) ⊎ (n ≢ m)
same_or_not n m = grind arith

pub claims_keep : {s : Duties} (n : ℕ) (new : List (ℕ × DutyRow)) → IsSound s → ClaimsIn n s.pending new → (m : ℕ) → IsOutIn m s.pending → IsOutIn m new
claims_keep {s} n new h (row, there, e) m (r, is, claimed) =
    let now : DutyRow = record row { claimed = true } in
    elim (same_or_not n m) [
      | inl same ↦ subst (λ k. IsOutIn k new) same (claimed_out {s = s} n new h (row, there, e))
      | inr ne ↦ (
        r,
        subst (λ rs. value_at m rs ≡ Some r) (sym (replaced_at {s = s} n row now new h there refl e))
            (placed_kept n m now r (without n s.pending) (value_at-without_same n s.pending) (removed_kept n m r s.pending ne is)),
        claimed,
      )
    ]

pub one_fate : {s : Duties} → IsSound s → (n : ℕ) → 1 ≤ n → n ≤ s.created → HasOneFate n s
one_fate {s} h n l m = elim (h.accounted.each n l m) [
  | inl p ↦ inl (p, λ e. h.accounted.apart n p e)
  | inr (k, d, b, is, named) ↦ inr (
    (λ p. h.accounted.apart n p (k, d, b, is, named)),
    (
      d,
      (k, b, is),
      named,
      All-contains (λ (x : SettledDuty). x.fate ≡ Pending → ⊥) s.ended d h.accounted.settled (k, b, is),
      λ other c e. h.accounted.once d other (k, b, is) c (e ∙ sym named),
    ),
  )
]

named_has : (queue : List ℕ) (ms : List Queue) → is_some (rows.named name_of queue ms) ≡ has_queue queue ms
named_has queue [] = refl
named_has queue (m ∷ ms) =
    elim (bytes_eq m.name queue) as (λ b. is_some (cond b (Some m) (rows.named name_of queue ms)) ≡ cond b true (has_queue queue ms)) [
      | true ↦ refl
      | false ↦ named_has queue ms
    ]

pub has_found : {X : Type 0} (now : X → Queue) (queue : List ℕ) (ms : List Queue) (r : Option X)
    → MatchOption r (rows.named name_of queue ms ≡ None) (λ x. rows.named name_of queue ms ≡ Some (now x)) → is_some r ≡ has_queue queue ms
has_found now queue ms None h = sym (ap is_some h) ∙ named_has queue ms
has_found now queue ms (Some x) h = sym (ap is_some h) ∙ named_has queue ms

queue_there : (queue : List ℕ) (ms : List Queue) → has_queue queue ms ≡ true → IsArnOfOne (queue_arn queue) ms
queue_there queue [] h = absurd (cc)
queue_there queue (o ∷ ms) h =
    let P : Queue → Type 0 = λ m. queue_arn queue ≡ queue_arn m.name in
    let d = bytes_eq-Decides o.name queue in
    (elim (bytes_eq o.name queue) as (λ b. bytes_eq o.name queue ≡ b → cond b true (has_queue queue ms) ≡ true → Any P (o ∷ ms)) [
      | true ↦ λ e _. any_here P o ms (ap queue_arn (sym (d.0 e)))
      | false ↦ λ _ g. any_there P o ms (queue_there queue ms g)
    ]) refl h

queue_has : (queue : List ℕ) (ms : List Queue) → IsArnOfOne (queue_arn queue) ms → has_queue queue ms ≡ true
queue_has queue [] (k, m, l, e, p) = absurd (omega arith)
queue_has queue (o ∷ ms) h =
    let P : Queue → Type 0 = λ m. queue_arn queue ≡ queue_arn m.name in
    elim (any_cases P o ms h) [
      | inl p ↦ let e : bytes_eq o.name queue ≡ true =
          (bytes_eq-Decides o.name queue).1 (sym (append_cancel_left (codes "arn:aws:sqs:us-east-1:111122223333:") queue o.name p)) in rw e
      | inr r ↦ let rest = queue_has queue ms r in elim (bytes_eq o.name queue) as (λ b. cond b true (has_queue queue ms) ≡ true) [ true ↦ refl | false ↦ rest ]
    ]

pub queue_decides : (queue : List ℕ) (ms : List Queue) (b : Bool) → b ≡ has_queue queue ms → IsTrue b ↔ IsArnOfOne (queue_arn queue) ms
queue_decides queue ms b e = (λ t. queue_there queue ms (sym e ∙ t), λ h. e ∙ queue_has queue ms h)

-- the number of a row that was taken out is free
pub taken_free : (pending : List (ℕ × DutyRow)) (n key : ℕ) (left : List (ℕ × DutyRow)) → key ≡ n → left ≡ without n pending → value_at key left ≡ None
taken_free pending n key left is e =
    subst (λ rs. value_at key rs ≡ None) (sym e) (subst (λ k. value_at k (without n pending) ≡ None) (sym is) (value_at-without_same n pending))

back_at : (pending : List (ℕ × DutyRow)) (n key : ℕ) (now : DutyRow) (left new : List (ℕ × DutyRow)) → key ≡ n → left ≡ without n pending
    → new ≡ placed (key, now) left → new ≡ placed (n, now) (without n pending)
back_at pending n key now left new is e f = f ∙ ap (λ rs. placed (key, now) rs) e ∙ ap (λ k. placed (k, now) (without n pending)) is

-- a row that was taken out comes back, changed
pub sound_back : {s : Duties} (n key : ℕ) (node now : DutyRow) (left new : List (ℕ × DutyRow)) → IsSound s → value_at n s.pending ≡ Some node
    → now.number ≡ n → key ≡ n → left ≡ without n s.pending → new ≡ placed (key, now) left → IsSound (record s { pending = new })
sound_back {s} n key node now left new h there named is e f = sound_replaced n node now new h there named (back_at s.pending n key now left new is e f)

pub back_keeps : (pending : List (ℕ × DutyRow)) (n key : ℕ) (now : DutyRow) (left new : List (ℕ × DutyRow)) → key ≡ n → left ≡ without n pending
    → new ≡ placed (key, now) left → (m : ℕ) → m ≢ n → IsOutIn m pending → IsOutIn m new
back_keeps pending n key now left new is e f m ne (r, there, claimed) =
    let apart : n ≢ m = λ same. ne (sym same) in (
      r,
      subst (λ rs. value_at m rs ≡ Some r) (sym (back_at pending n key now left new is e f))
          (placed_kept n m now r (without n pending) (value_at-without_same n pending) (removed_kept n m r pending apart there)),
      claimed,
    )

-- one more can end
pub ended_room : {s : Duties} (n : ℕ) (row : DutyRow) → IsSound s → value_at n s.pending ≡ Some row → length s.ended + 1 < 2 ^ 63
ended_room {s} n row h there = omega (arith, h.one_state, h.room, length-removed n row s.pending h.sorted there)

pub queues_room : {s : Duties} → IsSound s → length s.ended + 1 < 2 ^ 63 → All (λ m. m.sent + 1 < 2 ^ 63) s.queues
queues_room {s} h room =
    All-weaker (IsQueueWithin (length s.ended)) (λ (m : Queue). m.sent + 1 < 2 ^ 63) (λ m w. omega (arith, w, room)) s.queues h.queues_within

pub within_changed : (most : ℕ) (test : Queue → Bool) (body : List ℕ) (dead : Option DeadLetter) (ms : List Queue) → All (IsQueueWithin most) ms
    → All (IsQueueWithin (most + 1)) (changed_first test (with_next body dead) ms)
within_changed most test body dead [] a = All-nil (IsQueueWithin (most + 1))
within_changed most test body dead (m ∷ ms) a =
    let P : Queue → Type 0 = IsQueueWithin most in
    let Q : Queue → Type 0 = IsQueueWithin (most + 1) in
    let first : P m = All-head P m ms a in
    let weaker : (o : Queue) → P o → Q o = λ o w. omega (arith, w) in
    let more : Q (with_next body dead m) = omega (arith, first) in
    elim (test m) as (λ b. All Q (cond b (with_next body dead m ∷ ms) (m ∷ changed_first test (with_next body dead) ms))) [
      | true ↦ All-cons Q (with_next body dead m) ms more (All-weaker P Q weaker ms (All-tail P m ms a))
      | false ↦ All-cons Q m (changed_first test (with_next body dead) ms) (weaker m first) (within_changed most test body dead ms (All-tail P m ms a))
    ]

pub within_failed : (most : ℕ) (arn : Option (List ℕ)) (failure : Failure) (row : DutyRow) (ms : List Queue) → All (IsQueueWithin most) ms
    → All (IsQueueWithin (most + 1)) (dead_lettered arn failure row ms)
within_failed most None failure row ms a = All-weaker (IsQueueWithin most) (IsQueueWithin (most + 1)) (λ o w. omega (arith, w)) ms a
within_failed most (Some arn) failure row ms a =
    within_changed most (has_arn arn) row.duty.text (dead_letter_of row.duty.target (Some failure)) ms a

pub failed_ends : (arn : Option (List ℕ)) → failed_fate arn ≡ Pending → ⊥
failed_ends None e = absurd (cc)
failed_ends (Some arn) e = absurd (cc)

within_kept : (most : ℕ) (test : Queue → Bool) (change : Queue → Queue) (ms : List Queue) → ((m : Queue) → (change m).sent ≡ m.sent)
    → All (IsQueueWithin most) ms → All (IsQueueWithin most) (changed_first test change ms)
within_kept most test change [] k a = a
within_kept most test change (m ∷ ms) k a =
    let P : Queue → Type 0 = IsQueueWithin most in
    let first : P m = All-head P m ms a in
    let kept : P (change m) = omega (arith, first, k m) in
    elim (test m) as (λ b. All P (cond b (change m ∷ ms) (m ∷ changed_first test change ms))) [
      | true ↦ All-cons P (change m) ms kept (All-tail P m ms a)
      | false ↦ All-cons P m (changed_first test change ms) first (within_kept most test change ms k (All-tail P m ms a))
    ]

pub sound_deleted : {s : Duties} (queue : List ℕ) (through : ℕ) (queues : List Queue) → IsSound s → queues ≡ deleted_through queue through s.queues
    → IsSound (record s { queues = queues })
sound_deleted {s} queue through queues h e =
    sound_queues queues h (subst (All (IsQueueWithin (length s.ended))) (sym e)
    (within_kept (length s.ended) (is_named queue) (without_through through) s.queues (λ m. refl) h.queues_within))

-- the queues do not depend on the row beside its duty
dead_lettered_same : (arn : Option (List ℕ)) (failure : Failure) (row other : DutyRow) (ms : List Queue) → row.duty ≡ other.duty
    → dead_lettered arn failure row ms ≡ dead_lettered arn failure other ms
dead_lettered_same None failure row other ms e = refl
dead_lettered_same (Some arn) failure row other ms e =
    ap (λ (d : NewDuty). sent_to arn d.text (dead_letter_of d.target (Some failure)) ms) e

-- a duty is added that ends at once
pub added_never : (s : Duties) (duty : NewDuty) (moment : ℕ) (owed : DutyRow) (fate : Fate) (ended : List SettledDuty) (queues : List Queue) → IsSound s
    → duty.too_long ≡ true → owed.duty ≡ duty → fate ≡ failed_fate (dead_letter_queue duty.target (has_dead_letter_queue duty.target s.queues))
    → ended ≡ s.ended ++ record { number = s.created + 1; fate = fate } ∷ []
    → queues ≡ dead_lettered (dead_letter_queue duty.target (has_dead_letter_queue duty.target s.queues)) too_long owed s.queues
    → record s { created = s.created + 1; ended = ended; queues = queues } ≡ added_one duty moment s
added_never s duty moment owed fate ended queues h long is f e q =
    let n : ℕ = s.created + 1 in
    let row : DutyRow = begun n moment duty in
    let arn : Option (List ℕ) = dead_letter_queue duty.target (has_dead_letter_queue duty.target s.queues) in
    let pending_is : s.pending ≡ without n s.pending = sym (without_none n s.pending (others n s.pending (unused h))) in
    let queues_are : queues ≡ dead_lettered arn too_long row s.queues = q ∙ dead_lettered_same arn too_long owed row s.queues is in
    let ended_is : ended ≡ s.ended ++ record { number = n; fate = failed_fate arn } ∷ [] = e ∙ ap (λ x. s.ended ++ record { number = n; fate = x } ∷ []) f in
    let made : record s { created = n; ended = ended; queues = queues } ≡ failed arn too_long row (record s { created = n }) = cc in
    made ∙ sym (rw long refl)
