-- For private clauses alone: anchors as parts, each a path and tests.
use Rattle.std.specs.Prelude.{List, map}
use Rattle.std.specs.Arc.{arc_value}
use Rattle.std.specs.declared.alloc.Global.{Global}
use Rattle.std.specs.declared.sync.Arc.{Arc}
use Rattle.pattern_meaning.specs.Alternatives.{Part}
use Rattle.pattern_meaning.specs.Pattern.{Test}
use Rattle.pattern_meaning.specs.PatternView.{test_of}
use Rattle.pattern_meaning.specs.declared.pattern.LeafTest.{LeafTest}
use Rattle.rule_automaton.specs.declared.anchor.Anchor.{Anchor}

-- tests that are shared
abbrev pub shared_tests : List (Arc LeafTest Global) → List Test
shared_tests tests = map (λ test. test_of (arc_value test)) tests

abbrev pub part_of : Anchor → Part
part_of anchor = (anchor.path, shared_tests anchor.tests.items)

abbrev pub parts_of : List Anchor → List Part
parts_of anchors = map part_of anchors
