-- Readings that several calls gave. Callers cite `Gives-none` and `Gives-append`.
use Rattle.std.proofs.Common.{◌≡◌, ℕ, zero, suc, List, [], ◌∷◌, ◌++◌, refl, sym, ◌∙◌, Option, Some, None}
use Rattle.router_disk.specs.Clock.{followed_by, BeginsWith, Gives}

followed_by-append : (xs ys : List ℕ) (later : ℕ → ℕ) (k : ℕ) → followed_by (xs ++ ys) later k ≡ followed_by xs (followed_by ys later) k
followed_by-append [] ys later k = refl
followed_by-append (x ∷ xs) ys later zero = refl
followed_by-append (x ∷ xs) ys later (suc k) = followed_by-append xs ys later k

followed_by-same : (xs : List ℕ) (f g : ℕ → ℕ) → ((k : ℕ) → f k ≡ g k) → (k : ℕ) → followed_by xs f k ≡ followed_by xs g k
followed_by-same [] f g same k = same k
followed_by-same (x ∷ xs) f g same zero = refl
followed_by-same (x ∷ xs) f g same (suc k) = followed_by-same xs f g same k

BeginsWith-none : (ahead : Option (ℕ → ℕ)) → BeginsWith ahead ahead []
BeginsWith-none None = tt
BeginsWith-none (Some f) = λ k. refl

-- no call, no reading
pub Gives-none : (ahead : Option (ℕ → ℕ)) → Gives ahead ahead []
Gives-none ahead = record { in_order = BeginsWith-none ahead }

BeginsWith-append : (old mid new : Option (ℕ → ℕ)) (xs ys : List ℕ) → BeginsWith old mid xs → BeginsWith mid new ys → BeginsWith old new (xs ++ ys)
BeginsWith-append None mid new xs ys first second = tt
BeginsWith-append (Some f) None new xs ys first second = absurd first
BeginsWith-append (Some f) (Some g) None xs ys first second = absurd second
BeginsWith-append (Some f) (Some g) (Some h) xs ys first second = λ k.
    first k ∙ followed_by-same xs g (followed_by ys h) second k ∙ sym (followed_by-append xs ys h k)

-- readings of calls, then those of later calls
pub Gives-append : {old mid new : Option (ℕ → ℕ)} {xs ys : List ℕ} → Gives old mid xs → Gives mid new ys → Gives old new (xs ++ ys)
Gives-append {old} {mid} {new} {xs} {ys} first second =
    record { in_order = BeginsWith-append old mid new xs ys first.in_order second.in_order }
