-- Rules, and the marks of those whose patterns hold of an event.
use Rattle.std.specs.Prelude.{◌≡◌, ◌↔◌, ◌==◌, ℕ, Bool, false, not, IsTrue, List, length, slice_index_or, Any}
use Rattle.json_text.specs.Tree.{Tree}
use Rattle.pattern_meaning.specs.Pattern.{Pattern}
use Rattle.pattern_meaning.specs.Holds.{PatternHolds}
use Rattle.pattern_read.specs.Text.{IsPatternText}

-- The text is a pattern, which holds of the event.
-- Shown by: event_tests test_rule_automaton.rt: rules_are_marked.
abbrev pub TextHolds : List ℕ → Tree → Type 0
TextHolds text event = (p : Pattern) × IsPatternText text p × PatternHolds p event

-- The rule has this number, and its pattern holds of the event.
-- Shown by: event_tests test_rule_automaton.rt: rules_are_marked.
abbrev pub HoldsAs : Tree → ℕ → ℕ × List ℕ → Type 0
HoldsAs event number rule = (rule.0 ≡ number) × TextHolds rule.1 event

-- Afterwards exactly the places are marked whose number is that of a rule whose pattern holds of the event, whatever was marked before. The
-- number of places stays. Of `{"a":{"b":[1],"c":[2]}}` with the number 0 and `{"a":{"b":[1]}}` with the number 1, the event
-- `{"a":[{"b":1},{"c":2}]}` marks 1 alone.
-- Shown by: event_tests test_rule_automaton.rt: rules_are_marked.
pub record AreMarked (rules : List (ℕ × List ℕ)) (event : Tree) (old new : List Bool) : Type 0 where
  pub same_places : length new ≡ length old
  pub marked : (place : ℕ) → IsTrue (slice_index_or new place false) ↔ Any (HoldsAs event place) rules

-- The rule has another number.
-- Shown by: the_old_pattern_stays.edit.
abbrev pub has_other : ℕ → ℕ × List ℕ → Bool
has_other number rule = not (rule.0 == number)
