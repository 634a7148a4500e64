-- Which text is a pattern, and which pattern it is.
use Rattle.std.specs.Prelude.{◌≡◌, ◌≤◌, ℕ, true, List, length, None}
use Rattle.json_text.specs.Node.{Node, value_of, first_repeat}
use Rattle.json_text.specs.Grammar.{IsText}
use Rattle.pattern_meaning.specs.Pattern.{Pattern}
use Rattle.pattern_meaning.specs.Alternatives.{alternative_count}
use Rattle.pattern_read.specs.Value.{IsPatternOf}

-- The text is this pattern: at most 4,096 bytes (an EventBridge quota), JSON within 100 levels, no object with a key twice, and at most
-- 1,000 alternatives (both limits are this project's own).
-- Shown by: tables pattern_read.rows: a_text_of_4096_bytes_is_read_and_one_of_4097_is_not, alternatives_of_fields_are_multiplied.
pub record IsPatternText (bytes : List ℕ) (p : Pattern) : Type 0 where
  pub short : length bytes ≤ 4096
  pub node : Node
  pub spelled : IsText 100 bytes node
  pub once : first_repeat node ≡ None
  pub stands_for : IsPatternOf true (value_of node) p
  pub few : alternative_count p ≤ 1000
