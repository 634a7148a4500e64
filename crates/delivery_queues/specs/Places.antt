-- The place of a queue in a list of queues.
use Rattle.std.specs.Prelude.{◌≡◌, ℕ, Bool, true, false, List, ◌∷◌, ◌++◌, Option, Some, None, All, length}
use Rattle.delivery_queues.specs.Queues.{Queue}

-- The queue at this index passes the test, and none before it does.
-- Shown by: proofs alone.
pub record IsFirstAt (test : Queue → Bool) (queues : List Queue) (place : ℕ) : Type 0 where
  pub front : List Queue
  pub here : Queue
  pub back : List Queue
  pub parts : queues ≡ front ++ here ∷ back
  pub at : length front ≡ place
  pub others : All (λ m. test m ≡ false) front
  pub passes : test here ≡ true

-- The index of the first queue that passes the test; none if no queue does.
-- Shown by: proofs alone.
abbrev pub IsPlaceOf : (Queue → Bool) → List Queue → Option ℕ → Type 0
IsPlaceOf test queues None = All (λ m. test m ≡ false) queues
IsPlaceOf test queues (Some place) = IsFirstAt test queues place
