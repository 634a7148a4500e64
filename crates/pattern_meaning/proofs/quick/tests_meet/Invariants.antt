use Rattle.std.proofs.Common.{◌↔◌, ℕ, Bool, List, map, drop, option_copied}
use Rattle.pattern_meaning.specs.PatternView.{test_of}
use Rattle.pattern_meaning.specs.Frames.{value_of}
use Rattle.pattern_meaning.specs.Meets.{SomeMetOf, TestMet}
use Rattle.pattern_meaning.proofs.quick.tests_meet.Given as goal

-- what is left answers what all answer
abbrev pub invariant-loop-test : goal.invariant-loop-test
invariant-loop-test l = (absent : List (List ℕ) → Bool) (at : List (List ℕ)) →
    SomeMetOf (TestMet absent at (value_of (option_copied l.value))) (map test_of (drop l.test-index l.tests))
    ↔ SomeMetOf (TestMet absent at (value_of (option_copied l.value))) (map test_of l.tests)
