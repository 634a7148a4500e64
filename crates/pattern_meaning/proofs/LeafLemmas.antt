-- What a number's millionths decide: `within`.
use Rattle.std.proofs.Common.{◌≡◌, ◌↔◌, ℕ, ℤ, Bool, List, Option, Some, None, IsTrue, sym, subst, refl}
use Rattle.std.specs.Prelude.{All, IsSomeAnd}
use Rattle.numeric_keys.specs.Number.{IsMillionths}
use Rattle.json_text.specs.Tree.{number}
use Rattle.pattern_meaning.specs.declared.comparison.Comparison.{Comparison}
use Rattle.pattern_meaning.specs.Pattern.{numeric}
use Rattle.pattern_meaning.specs.Holds.{IsMet, Compares}

abbrev AllCompare : List Comparison → ℤ → Type 0
AllCompare cs n = All (λ c. Compares c.operator n c.bound) cs

spelled : (t u : List ℕ) → number t ≡ number u → t ≡ u
spelled t u e = cc

pub within : (cs : List Comparison) (t : List ℕ) (o : Option ℤ) (b : Bool) → ((m : ℤ) → (o ≡ Some m) ↔ IsMillionths t m)
    → IsTrue b ↔ IsSomeAnd o (AllCompare cs) → IsTrue b ↔ IsMet (numeric cs) (number t)
within cs t None b is all = (
  λ h. absurd (all.0 h),
  λ r. absurd (none r.1 ((is r.1).1 (subst (λ u. IsMillionths u r.1) (sym (spelled t r.0 r.2)) r.3))),
)
  where
    none : (m : ℤ) → None ≡ Some m → ⊥
    none m e = cc
within cs t (Some n) b is all = (
  λ h. (t, n, refl, (is n).0 refl, all.0 h),
  λ r. all.1 (subst (AllCompare cs) (sym (same_number n r.1 ((is r.1).1 (subst (λ u. IsMillionths u r.1) (sym (spelled t r.0 r.2)) r.3)))) r.4),
)
  where
    same_number : (a c : ℤ) → Some a ≡ Some c → a ≡ c
    same_number a c e = cc
