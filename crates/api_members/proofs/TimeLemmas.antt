-- Whether a value gives a moment: `time_found`.
use Rattle.std.proofs.Common.{◌≡◌, ◌↔◌, ℕ, Option, Some, None, false, true, refl}
use Rattle.std.specs.Prelude.{IsTrue, is_some}
use Rattle.json_text.specs.Tree.{Tree}
use Rattle.event_shape.specs.Time.{IsTime}
use Rattle.api_members.specs.Value.{GivesTime}

pub time_found : (tree : Tree) (found : Option ℕ) → ((moment : ℕ) → (found ≡ Some moment) ↔ IsTime tree moment) → IsTrue (is_some found) ↔ GivesTime tree
time_found tree None is = (λ t. nothing t, λ given. absurd (none given.0 given.1))
  where
    nothing : false ≡ true → GivesTime tree
    nothing never = absurd (cc)

    none : (moment : ℕ) → IsTime tree moment → ⊥
    none moment time = let never : None ≡ Some moment = (is moment).1 time in absurd (cc)
time_found tree (Some moment) is = (λ t. (moment, (is moment).0 refl), λ given. refl)
