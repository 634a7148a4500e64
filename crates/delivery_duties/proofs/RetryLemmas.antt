-- The delay of a retry: `capped`.
use Rattle.std.proofs.Common.{◌≡◌, ℕ, ◌*◌, ◌%◌, ◌^◌, ◌≤◌, ◌<◌, inl, inr, min, arith, subst, sym}
use Rattle.std.proofs.Math.Pow.{pow_mono}
use Rattle.std.proofs.lemmas.Bool.{cases_lt}

small : (p : ℕ) → p ≤ 1024 → min (1 * p % 18446744073709551616) 600 ≡ min p 600
small p h = omega (arith, h)

great : (p : ℕ) → 1024 ≤ p → 600 ≡ min p 600
great p h = omega (arith, h)

few : (f m : ℕ) → m ≡ min f 10 → f < 11 → m ≡ f
few f m e h = omega (arith, e, h)

many : (f m : ℕ) → m ≡ min f 10 → 11 ≤ f → m ≡ 10
many f m e h = omega (arith, e, h)

-- the cap on the exponent does not change the least of the power and 600
pub capped : (f m : ℕ) → m ≡ min f 10 → min (1 * 2 ^ m % 18446744073709551616) 600 ≡ min (2 ^ f) 600
capped f m e = elim (cases_lt f 11) [
  | inl h ↦ subst (λ n. min (1 * 2 ^ n % 18446744073709551616) 600 ≡ min (2 ^ f) 600) (sym (few f m e h))
      (small (2 ^ f) (pow_mono {i = f} {j = 10} (omega (arith, h))))
  | inr h ↦ subst (λ n. min (1 * 2 ^ n % 18446744073709551616) 600 ≡ min (2 ^ f) 600) (sym (many f m e h))
      (great (2 ^ f) (pow_mono {i = 10} {j = f} (omega (arith, h))))
]
