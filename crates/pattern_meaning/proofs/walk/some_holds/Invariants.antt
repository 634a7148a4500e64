use Rattle.std.proofs.Common.{◌↔◌, map, drop}
use Rattle.pattern_meaning.specs.PatternView.{test_of}
use Rattle.pattern_meaning.specs.Frames.{path_of, value_of, known_of}
use Rattle.pattern_meaning.specs.Meets.{SomeMetOf, TestMet, known_in}
use Rattle.std.specs.Prelude.{option_copied}
use Rattle.pattern_meaning.proofs.walk.some_holds.Given as goal

-- what is left answers what all answer
abbrev pub invariant-loop-test : goal.invariant-loop-test
invariant-loop-test l =
    SomeMetOf (TestMet (known_in (known_of l.site.known.now)) (path_of l.site.at.now) (value_of (option_copied l.site.value)))
    (map test_of (drop l.test-index l.tests.items))
    ↔ SomeMetOf (TestMet (known_in (known_of l.site.known.now)) (path_of l.site.at.now) (value_of (option_copied l.site.value)))
    (map test_of l.tests.items)
