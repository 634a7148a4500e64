-- Each step keeps the account of numbers (`IsAccounted`): `accounted_same`, `accounted_begun`, `accounted_more`.
use Rattle.std.proofs.Common.{◌≡◌, ℕ, ◌+◌, ◌≤◌, List, [], ◌∷◌, ◌++◌, sym, ap, ◌∙◌, subst, inl, inr, arith}
use Rattle.std.specs.Prelude.{◌⊎◌}
use Rattle.std.proofs.lemmas.List.Elements.{All-push, All-weaker, All-contains, Contains-push_cases}
use Rattle.delivery_duties.specs.declared.duty.DutyRow.{DutyRow}
use Rattle.delivery_duties.specs.declared.outcome.SettledDuty.{SettledDuty}
use Rattle.delivery_duties.specs.declared.outcome.Fate.TheVariants.{Pending}
use Rattle.delivery_duties.specs.Duties.{IsPending, HasEnded}
use Rattle.delivery_duties.specs.Sound.{IsAccounted}
use Rattle.delivery_duties.proofs.AnyLemmas.{any_middle, any_left, any_push_cases, contains_any}

-- the duty that ended has the number
abbrev NamedSo : ℕ → SettledDuty → Type 0
NamedSo n d = d.number ≡ n

-- the same numbers are pending
pub accounted_same : {created : ℕ} {pending : List (ℕ × DutyRow)} {ended : List SettledDuty} (rows : List (ℕ × DutyRow)) → IsAccounted created pending ended
    → ((n : ℕ) → IsPending n pending → IsPending n rows) → ((n : ℕ) → IsPending n rows → IsPending n pending) → IsAccounted created rows ended
accounted_same rows h to from = record {
  given = h.given;
  each = λ n l m. elim (h.each n l m) [ inl p ↦ inl (to n p) | inr e ↦ inr e ];
  apart = λ n p e. h.apart n (from n p) e;
  once = h.once;
  made = λ n p. h.made n (from n p);
  settled = h.settled;
}

pub one_more : (n m : ℕ) → n ≤ m + 1 → (n ≤ m) ⊎ (n ≡ m + 1)
one_more n m h = grind arith

-- another duty is added and pending
pub accounted_begun : {created : ℕ} {pending : List (ℕ × DutyRow)} {ended : List SettledDuty} (rows : List (ℕ × DutyRow)) → IsAccounted created pending ended
    → ((n : ℕ) → IsPending n pending → IsPending n rows) → IsPending (created + 1) rows
    → ((n : ℕ) → IsPending n rows → (n ≡ created + 1) ⊎ IsPending n pending) → IsAccounted (created + 1) rows ended
accounted_begun {created} {pending} {ended} rows h to new cases = record {
  given = All-weaker (λ (d : SettledDuty). d.number ≤ created) (λ d. d.number ≤ created + 1) (λ d k. omega (arith, k)) ended h.given;
  each = λ n l m. elim (one_more n created m) [
    | inl k ↦ elim (h.each n l k) [ inl p ↦ inl (to n p) | inr e ↦ inr e ]
    | inr e ↦ inl (subst (λ k. IsPending k rows) (sym e) new)
  ];
  apart = λ n p (k, d, l, e, q). elim (cases n p) [
    | inl r ↦ let b : d.number ≤ created = All-contains (λ (d : SettledDuty). d.number ≤ created) ended d h.given (k, l, e) in omega (arith, b, q, r)
    | inr r ↦ h.apart n r (k, d, l, e, q)
  ];
  once = h.once;
  made = λ n p. elim (cases n p) [ inl r ↦ omega (arith, r) | inr r ↦ let b = h.made n r in omega (arith, b) ];
  settled = h.settled;
}

-- a duty that had not ended ends, and is not pending any more
pub accounted_more : {created : ℕ} {pending : List (ℕ × DutyRow)} {ended : List SettledDuty} (more : ℕ) (rows : List (ℕ × DutyRow)) (d : SettledDuty)
    → IsAccounted created pending ended → created ≤ more → d.number ≤ more → (d.fate ≡ Pending → ⊥) → (HasEnded d.number ended → ⊥)
    → ((n : ℕ) → IsPending n rows → IsPending n pending) → (IsPending d.number rows → ⊥)
    → ((n : ℕ) → 1 ≤ n → n ≤ more → (n ≡ d.number) ⊎ (IsPending n rows ⊎ HasEnded n ended)) → IsAccounted more rows (ended ++ d ∷ [])
accounted_more {created} {pending} {ended} more rows d h c l over fresh from gone each = record {
  given = All-push (λ (x : SettledDuty). x.number ≤ more) ended d
      (All-weaker (λ (x : SettledDuty). x.number ≤ created) (λ x. x.number ≤ more) (λ x k. omega (arith, k, c)) ended h.given) l;
  each = λ n a b. elim (each n a b) [
    | inl same ↦ inr (any_middle (NamedSo n) ended d [] (sym same))
    | inr r ↦ elim r [ inl p ↦ inl p | inr q ↦ inr (any_left (NamedSo n) ended (d ∷ []) q) ]
  ];
  apart = λ n p q. elim (any_push_cases (NamedSo n) ended d q) [
    | inl r ↦ h.apart n (from n p) r
    | inr same ↦ gone (subst (λ k. IsPending k rows) (sym same) p)
  ];
  once = λ x y s t same. elim (Contains-push_cases ended d x s) [
    | inl a ↦ elim (Contains-push_cases ended d y t) [
      | inl b ↦ h.once x y a b same
      | inr b ↦ absurd (fresh (contains_any (NamedSo d.number) ended x a (sym same ∙ ap (λ (z : SettledDuty). z.number) (sym b))))
    ]
    | inr a ↦ elim (Contains-push_cases ended d y t) [
      | inl b ↦ absurd (fresh (contains_any (NamedSo d.number) ended y b (same ∙ ap (λ (z : SettledDuty). z.number) (sym a))))
      | inr b ↦ sym b ∙ a
    ]
  ];
  made = λ n p. let b = h.made n (from n p) in omega (arith, b, c);
  settled = All-push (λ (x : SettledDuty). x.fate ≡ Pending → ⊥) ended d h.settled over;
}
