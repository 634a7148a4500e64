-- Each step leads from sound duties to sound duties: `sound_queues`, `sound_replaced`, `sound_ended`, `sound_begun`, `sound_never`.
use Rattle.std.proofs.Common.{◌≡◌, ◌≢◌, ℕ, ◌+◌, ◌<◌, ◌≤◌, ◌^◌, List, [], ◌∷◌, ◌++◌, Some, None, length, refl, sym, ap, ◌∙◌, subst, inl, inr, arith, length-append}
use Rattle.std.specs.Prelude.{All, ◌⊎◌}
use Rattle.std.proofs.lemmas.List.Elements.{All-contains}
use Rattle.key_tree.specs.Entries.{value_at, placed, without}
use Rattle.key_tree.proofs.EntryLemmas.{others, sorted_placed, sorted_without, value_at-without_same, length-placed}
use Rattle.delivery_duties.specs.declared.duty.DutyRow.{DutyRow}
use Rattle.delivery_duties.specs.declared.outcome.SettledDuty.{SettledDuty}
use Rattle.delivery_duties.specs.declared.outcome.Fate.TheVariants.{Pending}
use Rattle.delivery_queues.specs.Queues.{Queue}
use Rattle.delivery_duties.specs.Duties.{Duties, IsPending}
use Rattle.delivery_duties.specs.Sound.{IsSound, IsQueueWithin}
use Rattle.delivery_duties.proofs.EntryLemmas.{placed_here, placed_kept, by_placed, by_removed, removed_kept, length-removed}
use Rattle.delivery_duties.proofs.EndLemmas.{accounted_same, accounted_begun, accounted_more, one_more}

same_or_not : (n m : ℕ) → (n ≡ m) ⊎ (n ≢ m)
same_or_not n m = grind arith

pub sound_queues : {s : Duties} (queues : List Queue) → IsSound s → All (IsQueueWithin (length s.ended)) queues → IsSound (record s { queues = queues })
sound_queues queues h within = record {
  accounted = h.accounted;
  sorted = h.sorted;
  named = h.named;
  queues_within = within;
  one_state = h.one_state;
  room = h.room;
}

-- a pending row changes, and keeps its number
pub sound_replaced : {s : Duties} (n : ℕ) (row now : DutyRow) (pending : List (ℕ × DutyRow)) → IsSound s → value_at n s.pending ≡ Some row → now.number ≡ n
    → pending ≡ placed (n, now) (without n s.pending) → IsSound (record s { pending = pending })
sound_replaced {s} n row now pending h there named e =
    let left : List (ℕ × DutyRow) = without n s.pending in
    let none : value_at n left ≡ None = value_at-without_same n s.pending in
    let F : List (ℕ × DutyRow) → Type 0 = λ rows. IsSound (record s { pending = rows }) in
    let made : F (placed (n, now) left) = record {
      accounted = accounted_same (placed (n, now) left) h.accounted
          (λ m (r, is). elim (same_or_not n m) [
            | inl same ↦ (now, subst (λ k. value_at k (placed (n, now) left) ≡ Some now) same (placed_here n now left none))
            | inr ne ↦ (r, placed_kept n m now r left none (removed_kept n m r s.pending ne is))
          ])
          (λ m (r, is). by_placed n m now r left none is
          (λ same _. (row, subst (λ k. value_at k s.pending ≡ Some row) same there))
          (λ ne kept. (r, (by_removed n m r s.pending kept).1)));
      sorted = sorted_placed (n, now) left (sorted_without n s.pending h.sorted) (others n left none);
      named = λ m r is. by_placed n m now r left none is
          (λ same equal. sym (ap (λ (o : DutyRow). o.number) equal) ∙ named ∙ same)
          (λ ne kept. h.named m r (by_removed n m r s.pending kept).1);
      queues_within = h.queues_within;
      one_state = omega (arith, h.one_state, length-placed (n, now) left, length-removed n row s.pending h.sorted there);
      room = h.room;
    } in
    subst F (sym e) made

-- a pending duty ends
pub sound_ended : {s : Duties} (n : ℕ) (row : DutyRow) (d : SettledDuty) (pending : List (ℕ × DutyRow)) (ended : List SettledDuty) (queues : List Queue)
    → IsSound s → value_at n s.pending ≡ Some row → d.number ≡ n → (d.fate ≡ Pending → ⊥) → pending ≡ without n s.pending → ended ≡ s.ended ++ d ∷ []
    → All (IsQueueWithin (length s.ended + 1)) queues → IsSound (record s { pending = pending; ended = ended; queues = queues })
sound_ended {s} n row d pending ended queues h there named over e f within =
    let left : List (ℕ × DutyRow) = without n s.pending in
    let F : List (ℕ × DutyRow) → Type 0 = λ rows. IsSound (record s { pending = rows; ended = ended; queues = queues }) in
    let G : List SettledDuty → Type 0 = λ ds. IsSound (record s { pending = left; ended = ds; queues = queues }) in
    let is_pending : IsPending d.number s.pending = (row, subst (λ k. value_at k s.pending ≡ Some row) (sym named) there) in
    let gone : IsPending d.number left → ⊥ = λ (r, is).
    let none : value_at d.number left ≡ None = subst (λ k. value_at k left ≡ None) (sym named) (value_at-without_same n s.pending) in
    absurd (cc) in
    let count : length (s.ended ++ d ∷ []) ≡ length s.ended + 1 = length-append s.ended (d ∷ []) in
    let made : G (s.ended ++ d ∷ []) = record {
      accounted = accounted_more s.created left d h.accounted (omega arith) (h.accounted.made d.number is_pending) over
          (λ r. h.accounted.apart d.number is_pending r)
          (λ m (r, is). (r, (by_removed n m r s.pending is).1)) gone
          (λ m a b. elim (same_or_not n m) [
            | inl same ↦ inl (sym same ∙ sym named)
            | inr ne ↦ elim (h.accounted.each m a b) [ inl (r, is) ↦ inr (inl (r, removed_kept n m r s.pending ne is)) | inr q ↦ inr (inr q) ]
          ]);
      sorted = sorted_without n s.pending h.sorted;
      named = λ m r is. h.named m r (by_removed n m r s.pending is).1;
      queues_within = subst (λ k. All (IsQueueWithin k) queues) (sym count) within;
      one_state = omega (arith, h.one_state, count, length-removed n row s.pending h.sorted there);
      room = h.room;
    } in
    subst F (sym e) (subst G (sym f) made)

-- the next number is not used
pub unused : {s : Duties} → IsSound s → value_at (s.created + 1) s.pending ≡ None
unused {s} h =
    (elim (value_at (s.created + 1) s.pending) as (λ o. value_at (s.created + 1) s.pending ≡ o → o ≡ None) [
      | None ↦ λ is. refl
      | Some row ↦ λ is. let b = h.accounted.made (s.created + 1) (row, is) in absurd (omega (arith, b))
    ]) refl

-- a duty is added, and is pending
pub sound_begun : {s : Duties} (row : DutyRow) (pending : List (ℕ × DutyRow)) → IsSound s → s.created + 1 < 2 ^ 63 → row.number ≡ s.created + 1
    → pending ≡ placed (s.created + 1, row) s.pending → IsSound (record s { created = s.created + 1; pending = pending })
sound_begun {s} row pending h room named e =
    let n : ℕ = s.created + 1 in
    let none : value_at n s.pending ≡ None = unused {s = s} h in
    let F : List (ℕ × DutyRow) → Type 0 = λ rows. IsSound (record s { created = n; pending = rows }) in
    let made : F (placed (n, row) s.pending) = record {
      accounted = accounted_begun (placed (n, row) s.pending) h.accounted
          (λ m (r, is). (r, placed_kept n m row r s.pending none is)) (row, placed_here n row s.pending none)
          (λ m (r, is). by_placed n m row r s.pending none is (λ same _. inl (sym same)) (λ ne kept. inr (r, kept)));
      sorted = sorted_placed (n, row) s.pending h.sorted (others n s.pending none);
      named = λ m r is. by_placed n m row r s.pending none is
          (λ same equal. sym (ap (λ (o : DutyRow). o.number) equal) ∙ named ∙ same) (λ ne kept. h.named m r kept);
      queues_within = h.queues_within;
      one_state = omega (arith, h.one_state, length-placed (n, row) s.pending);
      room = room;
    } in
    subst F (sym e) made

-- a duty is added, and ends at once
pub sound_never : {s : Duties} (d : SettledDuty) (ended : List SettledDuty) (queues : List Queue) → IsSound s → s.created + 1 < 2 ^ 63
    → d.number ≡ s.created + 1 → (d.fate ≡ Pending → ⊥) → ended ≡ s.ended ++ d ∷ [] → All (IsQueueWithin (length s.ended + 1)) queues
    → IsSound (record s { created = s.created + 1; ended = ended; queues = queues })
sound_never {s} d ended queues h room named over f within =
    let G : List SettledDuty → Type 0 = λ ds. IsSound (record s { created = s.created + 1; ended = ds; queues = queues }) in
    let count : length (s.ended ++ d ∷ []) ≡ length s.ended + 1 = length-append s.ended (d ∷ []) in
    let made : G (s.ended ++ d ∷ []) = record {
      accounted = accounted_more (s.created + 1) s.pending d h.accounted (omega arith) (omega (arith, named)) over
          (λ (k, x, l, g, q). let b : x.number ≤ s.created = All-contains (λ (x : SettledDuty). x.number ≤ s.created) s.ended x h.accounted.given (k, l, g) in
          omega (arith, b, q, named))
          (λ m p. p) (λ p. let b = h.accounted.made d.number p in omega (arith, b, named))
          (λ m a b. elim (one_more m s.created b) [ inl k ↦ inr (h.accounted.each m a k) | inr same ↦ inl (same ∙ sym named) ]);
      sorted = h.sorted;
      named = h.named;
      queues_within = subst (λ k. All (IsQueueWithin k) queues) (sym count) within;
      one_state = omega (arith, h.one_state, count);
      room = room;
    } in
    subst G (sym f) made
