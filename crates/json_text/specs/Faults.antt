-- The place at which bytes stop being JSON.
use Rattle.std.specs.Prelude.{◌≤◌, ◌<◌, ℕ, suc, List, ◌++◌, length, take}
use Rattle.json_text.specs.Node.{Node}
use Rattle.json_text.specs.Grammar.{IsText}

-- Some further bytes make the bytes a text within the levels.
-- Shown by: text_tests test_json_text.rt: faults_are_reported_at_their_places.
abbrev pub Begins : ℕ → List ℕ → Type 0
Begins levels bytes = (more : List ℕ) × (n : Node) × IsText levels (bytes ++ more) n

-- The bytes are no text within the levels, and this is the length of their longest front that begins one. Examples: the empty text fails at
-- 0, `[1,]` at 3, `nul` at 3, `"\ud800"` at 7.
-- Shown by: text_tests test_json_text.rt: faults_are_reported_at_their_places.
pub record FailsAt (levels : ℕ) (bytes : List ℕ) (at : ℕ) : Type 0 where
  pub within : at ≤ length bytes
  pub front : Begins levels (take at bytes)
  pub longest : (k : ℕ) → at < k → k ≤ length bytes → ¬ Begins levels (take k bytes)
  pub none : (n : Node) → ¬ IsText levels bytes n

-- With one level more the front would be longer: the next byte opens one level too many.
-- Shown by: text_tests test_json_text.rt: faults_are_reported_at_their_places.
abbrev pub OpensTooMany : ℕ → List ℕ → ℕ → Type 0
OpensTooMany levels bytes at = (at < length bytes) × Begins (suc levels) (take (suc at) bytes)
