-- Some row passes a test: as a row that is found by its number, and as a truth value: `passes_any`, `any_passes`; `same_truth`.
use Rattle.std.proofs.Common.{◌≡◌, ℕ, ◌<◌, ◌==◌, ◌||◌, Bool, true, false, IsTrue, List, [], ◌∷◌, Option, Some, None, refl, sym, ap, ◌∙◌, subst, arith}
use Rattle.std.specs.List.{list_any}
use Rattle.std.proofs.lemmas.Bool.{false≢true}
use Rattle.std.proofs.lemmas.Bool.Decides.{Decides-eqb}
use Rattle.key_tree.specs.Entries.{value_at, AllKeys, AreSorted}
use Rattle.delivery_duties.specs.declared.duty.DutyRow.{DutyRow}
use Rattle.delivery_duties.proofs.OrderLemmas.{HasRow}

by_test : {G : Type 0} (b : Bool) → (b ≡ true → G) → (b ≡ false → G) → G
by_test true t f = t refl
by_test false t f = f refl

pub same_truth : (a b : Bool) → (a ≡ true → b ≡ true) → (b ≡ true → a ≡ true) → a ≡ b
same_truth true b f g = sym (f refl)
same_truth false true f g = absurd (false≢true (g refl))
same_truth false false f g = refl

either_true : (a b : Bool) → b ≡ true → a || b ≡ true
either_true true b h = refl
either_true false b h = h

pub passes_any : (test : DutyRow → Bool) (rows : List (ℕ × DutyRow)) → HasRow (λ row. IsTrue (test row)) rows → list_any (λ p. test p.1) rows ≡ true
passes_any test [] (n, row, there, passes) = absurd cc
passes_any test (e ∷ rest) (n, row, there, passes) = by_test (e.0 == n)
    (λ same.
    let found : Some e.1 ≡ Some row = rw same at there in
    let is : e.1 ≡ row = cc in
    let passed : test e.1 ≡ true = ap test is ∙ passes in
    rw passed refl)
    (λ other.
    let later : value_at n rest ≡ Some row = rw other at there in
    either_true (test e.1) (list_any (λ p. test p.1) rest) (passes_any test rest (n, row, later, passes)))

key_of : (P : ℕ → Type 0) (rows : List (ℕ × DutyRow)) (n : ℕ) (row : DutyRow) → AllKeys P rows → value_at n rows ≡ Some row → P n
key_of P [] n row all there = absurd cc
key_of P (e ∷ rest) n row all there = by_test (e.0 == n)
    (λ same. subst P ((Decides-eqb e.0 n).0 same) all.0)
    (λ other. key_of P rest n row all.1 (rw other at there))

pub any_passes : (test : DutyRow → Bool) (rows : List (ℕ × DutyRow)) → AreSorted rows → list_any (λ p. test p.1) rows ≡ true
    → HasRow (λ row. IsTrue (test row)) rows
any_passes test [] sorted any = absurd (false≢true any)
any_passes test (e ∷ rest) sorted any = by_test (test e.1)
    (λ passes. (e.0, e.1, rw ((Decides-eqb e.0 e.0).1 refl) refl, passes))
    (λ no.
    let later : list_any (λ p. test p.1) rest ≡ true = rw no at any in
    let (n, row, there, passes) = any_passes test rest sorted.1 later in
    let below : e.0 < n = key_of (λ key. e.0 < key) rest n row sorted.0 there in (
      n,
      row,
      by_test (e.0 == n)
          (λ same. let is = (Decides-eqb e.0 n).0 same in absurd (omega (arith, below, is)))
          (λ other. rw other there),
      passes,
    ))
