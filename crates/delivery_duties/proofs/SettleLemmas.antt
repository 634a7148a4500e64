-- A claim ends: `gone_keeps`, `gone_not_out` if the duty is not pending any more, `back_not_out` if it is, and `names_failed`.
use Rattle.std.proofs.Common.{◌≡◌, ◌≢◌, ℕ, true, false, List, Option, Some, None, map, refl, sym, ap, ◌∙◌, subst}
use Rattle.key_tree.specs.Entries.{value_at, placed, without}
use Rattle.key_tree.proofs.EntryLemmas.{value_at-without_same}
use Rattle.delivery_duties.specs.declared.duty.DutyRow.{DutyRow}
use Rattle.delivery_queues.specs.declared.failure.Failure.{Failure}
use Rattle.delivery_queues.specs.Queues.{Queue, has_arn, with_next}
use Rattle.delivery_duties.specs.Duties.{dead_lettered, dead_letter_of}
use Rattle.delivery_duties.specs.Order.{IsOutIn}
use Rattle.delivery_duties.proofs.EntryLemmas.{placed_here, removed_kept}
use Rattle.delivery_queues.proofs.PlaceLemmas.{names_changed}

pub gone_keeps : (pending left : List (ℕ × DutyRow)) (n m : ℕ) → left ≡ without n pending → m ≢ n → IsOutIn m pending → IsOutIn m left
gone_keeps pending left n m e ne (r, there, claimed) =
    (r, subst (λ rs. value_at m rs ≡ Some r) (sym e) (removed_kept n m r pending (λ same. ne (sym same)) there), claimed)

pub gone_not_out : (pending left : List (ℕ × DutyRow)) (n : ℕ) → left ≡ without n pending → IsOutIn n left → ⊥
gone_not_out pending left n e (r, there, claimed) =
    let none : value_at n left ≡ None = subst (λ rs. value_at n rs ≡ None) (sym e) (value_at-without_same n pending) in
    absurd (cc)

pub back_not_out : (pending left new : List (ℕ × DutyRow)) (n key : ℕ) (now : DutyRow) → now.claimed ≡ false → key ≡ n → left ≡ without n pending
    → new ≡ placed (key, now) left → IsOutIn n new → ⊥
back_not_out pending left new n key now free is e f (r, there, claimed) =
    let all : new ≡ placed (n, now) (without n pending) = f ∙ ap (λ rs. placed (key, now) rs) e ∙ ap (λ k. placed (k, now) (without n pending)) is in
    let here : value_at n new ≡ Some now =
    subst (λ rs. value_at n rs ≡ Some now) (sym all) (placed_here n now (without n pending) (value_at-without_same n pending)) in
    let same : r ≡ now = cc in
    let both : true ≡ false = sym claimed ∙ ap (λ (o : DutyRow). o.claimed) same ∙ free in
    absurd (cc)

pub names_failed : (arn : Option (List ℕ)) (failure : Failure) (row : DutyRow) (ms : List Queue)
    → map (λ (m : Queue). m.name) (dead_lettered arn failure row ms) ≡ map (λ (m : Queue). m.name) ms
names_failed None failure row ms = refl
names_failed (Some arn) failure row ms = names_changed (has_arn arn) (with_next row.duty.text (dead_letter_of row.duty.target (Some failure))) ms (λ m. refl)
