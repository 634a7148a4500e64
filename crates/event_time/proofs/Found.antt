-- A reader returns the values for which a fact holds: `found` and `not_found`.
use Rattle.std.proofs.Common.{◌≡◌, ℕ, Option, Some, None, ◌↔◌, sym, ap, subst, ◌∙◌}

pub not_found : {P : ℕ → Type 0} (r : Option ℕ) → r ≡ None → ((n : ℕ) → ¬ P n) → (n : ℕ) → (r ≡ Some n) ↔ P n
not_found r e h n = (λ s. cc, λ p. absurd (h n p))

pub found : {P : ℕ → Type 0} (r : Option ℕ) (m : ℕ) → r ≡ Some m → P m → ((n : ℕ) → P n → n ≡ m) → (n : ℕ) → (r ≡ Some n) ↔ P n
found {P = P} r m e p only n = (λ s. let same : m ≡ n = cc in subst P same p, λ q. e ∙ ap Some (sym (only n q)))
