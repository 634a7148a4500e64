-- What the private readers return. No public clause names these.
use Rattle.std.specs.Prelude.{◌≡◌, ◌⊎◌, ℕ, ◌<◌, ◌≤◌, true, List, [], ◌++◌, Option, option_map, Result, Ok, Err, unwrap_or}
use Rattle.json_text.specs.Tree.{Tree}
use Rattle.pattern_meaning.specs.Pattern.{Pattern, Test, anything_but, tests_of}
use Rattle.pattern_meaning.specs.PatternView.{pattern_of}
use Rattle.pattern_meaning.specs.Alternatives.{alternative_count}
use Rattle.pattern_meaning.specs.declared.pattern.Pattern.{Pattern as CodePattern}
use Rattle.pattern_read.specs.Test.{AreTextTests}
use Rattle.pattern_read.specs.Value.{IsPatternOf}
use Rattle.pattern_read.specs.Check.{Checks, IsFirst, pattern_checks}
use Rattle.pattern_read.specs.Refusal.{joined, path_text}
use Rattle.pattern_read.specs.declared.fault.Why.TheVariants.{TooMany}
use Rattle.pattern_read.specs.declared.fault.Fault.{Fault}
use Rattle.pattern_read.specs.declared.fault.Fault.TheVariants as fault
use Rattle.pattern_read.specs.declared.fault.PatternFault.{PatternFault}
use Rattle.pattern_read.specs.declared.fault.PatternFault.TheVariants as pattern_fault
use Rattle.pattern_read.specs.declared.kind.Kind.{Kind}
use Rattle.pattern_read.specs.declared.kind.Kind.TheVariants.{Prefix, Suffix, EqualsIgnoreCase, Exists}

-- the fault is the first check that does not pass, or memory ran out
abbrev pub IsReported : Checks → Fault → Type 0
IsReported checks (fault.Refused why path) = (keys : List (List ℕ)) × IsFirst checks keys why × (path ≡ joined keys)
IsReported checks fault.NoMemory = Unit {0}

-- a value that is what is meant, or the fault
abbrev pub Gives : {X Y : Type 0} → (X → Y) → (Y → Type 0) → Checks → Result X Fault → Type 0
Gives view Means checks (Ok x) = Means (view x)
Gives view Means checks (Err e) = IsReported checks e

-- what there is, if there is any, or memory ran out
abbrev pub GivesSome : {X Y E : Type 0} → (X → Y) → Option Y → Result (Option X) E → Type 0
GivesSome view there (Ok found) = option_map view found ≡ there
GivesSome view there (Err e) = Unit {0}

-- the test of an object in `anything-but`
abbrev pub IsBut : Option (Kind × Tree) → Test → Type 0
IsBut named test = (tests : List Test) × AreTextTests named tests × (test ≡ anything_but (tests_of tests))

-- the same fault with its path as a text
abbrev pub pattern_fault_of : Fault → PatternFault
pattern_fault_of (fault.Refused why path) = pattern_fault.Refused why (unwrap_or path [])
pattern_fault_of fault.NoMemory = pattern_fault.NoMemory

-- the kinds of which `plain_test` is the table
abbrev pub IsPlain : Kind → Type 0
IsPlain Prefix = Unit {0}
IsPlain Suffix = Unit {0}
IsPlain EqualsIgnoreCase = Unit {0}
IsPlain Exists = Unit {0}
IsPlain _ = ⊥

-- after what was there, what is meant
abbrev pub Adds : {Y : Type 0} → List Y → (List Y → Type 0) → List Y → Type 0
Adds {Y} before Means ys = (more : List Y) × Means more × (ys ≡ before ++ more)

-- the pattern of a value with few enough alternatives, or the fault
abbrev pub IsRead : Tree → Result CodePattern PatternFault → Type 0
IsRead t (Ok p) = IsPatternOf true t (pattern_of p) × (alternative_count (pattern_of p) ≤ 1000)
IsRead t (Err (pattern_fault.Refused why path)) =
    ((keys : List (List ℕ)) × IsFirst (pattern_checks true t) keys why × (path ≡ path_text keys))
    ⊎ ((p : Pattern) × IsPatternOf true t p × (1000 < alternative_count p) × (why ≡ TooMany) × (path ≡ []))
IsRead t (Err pattern_fault.NoMemory) = Unit {0}
