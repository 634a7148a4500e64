-- Why a text is no pattern, and where.
use Rattle.std.specs.Prelude.{◌≡◌, ◌≤◌, ◌<◌, ℕ, true, List, [], ◌∷◌, ◌++◌, length, Option, Some, None, unwrap_or, codes}
use Rattle.json_text.specs.Node.{Node, value_of, first_repeat}
use Rattle.json_text.specs.Grammar.{IsText}
use Rattle.json_text.specs.Faults.{FailsAt, OpensTooMany}
use Rattle.pattern_meaning.specs.Pattern.{Pattern}
use Rattle.pattern_meaning.specs.Alternatives.{alternative_count}
use Rattle.pattern_read.specs.Value.{IsPatternOf}
use Rattle.pattern_read.specs.Check.{pattern_checks, IsFirst}
use Rattle.pattern_read.specs.declared.fault.Why.{Why}
use Rattle.pattern_read.specs.declared.fault.Why.TheVariants.{TooLong, NotJson, TooDeep, KeyTwice, TooMany}
use Rattle.pattern_read.specs.declared.fault.PatternFault.{PatternFault}
use Rattle.pattern_read.specs.declared.fault.PatternFault.TheVariants as fault

-- The text is refused with this cause at these keys. First comes its length, then the first place that is no JSON or too deep, a key twice,
-- the first fault of its value in the order of the text, and last too many alternatives.
-- Shown by: tables pattern_read.rows: texts_that_are_no_json_are_refused, very_many_alternatives_are_too_many.
pub data IsRefused (bytes : List ℕ) : Why → List (List ℕ) → Type 0 where
  too_long : 4096 < length bytes → IsRefused bytes TooLong []
  not_json : (at : ℕ) → length bytes ≤ 4096 → FailsAt 100 bytes at → ¬ OpensTooMany 100 bytes at → IsRefused bytes NotJson []
  too_deep : (at : ℕ) → length bytes ≤ 4096 → FailsAt 100 bytes at → OpensTooMany 100 bytes at → IsRefused bytes TooDeep []
  key_twice : (node : Node) (at : ℕ) → length bytes ≤ 4096 → IsText 100 bytes node → first_repeat node ≡ Some at → IsRefused bytes KeyTwice []
  at_place : (node : Node) (why : Why) (keys : List (List ℕ)) → length bytes ≤ 4096 → IsText 100 bytes node → first_repeat node ≡ None
      → IsFirst (pattern_checks true (value_of node)) keys why → IsRefused bytes why keys
  too_many : (node : Node) (p : Pattern) → length bytes ≤ 4096 → IsText 100 bytes node → first_repeat node ≡ None
      → IsPatternOf true (value_of node) p → 1000 < alternative_count p → IsRefused bytes TooMany []

-- a key before a path
abbrev pub before_dot : List ℕ → Option (List ℕ) → List ℕ
before_dot key None = key
before_dot key (Some path) = key ++ (codes "." ++ path)

-- the keys joined by `.`, if there is a key
abbrev pub joined : List (List ℕ) → Option (List ℕ)
joined [] = None
joined (key ∷ keys) = Some (before_dot key (joined keys))

-- The keys joined by `.`; empty for the root.
-- Shown by: tables pattern_read.rows: values_that_are_no_patterns_are_refused.
abbrev pub path_text : List (List ℕ) → List ℕ
path_text keys = unwrap_or (joined keys) []

-- The fault that was returned is the text's, with its path; or memory ran out.
-- Shown by: tables pattern_read.rows: the_first_fault_of_the_text_is_reported.
abbrev pub IsFault : List ℕ → PatternFault → Type 0
IsFault bytes (fault.Refused why path) = (keys : List (List ℕ)) × IsRefused bytes why keys × (path ≡ path_text keys)
IsFault bytes fault.NoMemory = Unit {0}
