-- For private clauses alone: anchors that are entered under their paths.
use Rattle.std.specs.Prelude.{◌≡◌, ◌↔◌, ◌<◌, ◌==◌, ℕ, not, List, [], Option, Some, None, length, filter, map, flat_map, slice_index_or, Contains}
use Rattle.std.specs.Arc.{arc_value}
use Rattle.std.specs.declared.alloc.Global.{Global}
use Rattle.std.specs.declared.sync.Arc.{Arc}
use Rattle.pattern_meaning.specs.Alternatives.{Part}
use Rattle.value_index.specs.Hits.{Entry}
use Rattle.value_index.specs.Index.{entries_of}
use Rattle.value_index.specs.declared.index.PathIndex.{PathIndex}
use Rattle.rule_automaton.specs.declared.rule.Rule.{Rule}
use Rattle.rule_automaton.specs.declared.table.Table.{Table}
use Rattle.rule_automaton.specs.AnchorView.{parts_of}
use Rattle.rule_automaton.specs.RuleView.{rule_in}

-- a part and the number of its rule
abbrev pub Entered : Type 0
Entered = ℕ × Part

abbrev pub with_number : ℕ → List Part → List Entered
with_number number parts = map (λ part. (number, part)) parts

-- all anchors of a rule
abbrev pub entered_by : Rule → List Entered
entered_by rule = with_number rule.number (parts_of (arc_value rule.anchors).items)

abbrev pub entered_by_all : List Rule → List Entered
entered_by_all rules = flat_map entered_by rules

-- the test with the mark is one of a part at this path, whose rule has the mark as its number
abbrev pub Enters : List (List ℕ) → Entry → Entered → Type 0
Enters path entry entered = (entered.1.0 ≡ path) × (entry.1 ≡ entered.0) × Contains entered.1.1 entry.0

abbrev pub IsEntered : List Entered → List (List ℕ) → Entry → Type 0
IsEntered all path entry = (entered : Entered) × Contains all entered × Enters path entry entered

-- the entries are those of the parts at this path
abbrev pub AreAt : List Entered → List (List ℕ) → List Entry → Type 0
AreAt all path entries = (entry : Entry) → Contains entries entry ↔ IsEntered all path entry

abbrev pub entries_in : Arc PathIndex Global → List Entry
entries_in index = entries_of (arc_value index)

-- the entries that were found
abbrev pub entries_found : Option (Arc PathIndex Global) → List Entry
entries_found None = []
entries_found (Some index) = entries_in index

-- each part is entered under its path, and nothing else is
pub record IsTableOf (all : List Entered) (table : Table) : Type 0 where
  pub covers : (path : List (List ℕ)) (entry : Entry) → IsEntered all path entry → Contains table.paths path
  pub exact : (place : ℕ) (path : List (List ℕ)) (index : Arc PathIndex Global) → place < length table.paths
      → AreAt all (slice_index_or table.paths place path) (entries_in (slice_index_or table.indexes.items place index))

-- the indexes at the places below a number are those of the parts at their paths
abbrev pub ExactBelow : List Entered → List (List (List ℕ)) → List (Arc PathIndex Global) → ℕ → Type 0
ExactBelow all paths indexes n = (place : ℕ) (path : List (List ℕ)) (index : Arc PathIndex Global) → place < n
    → AreAt all (slice_index_or paths place path) (entries_in (slice_index_or indexes place index))

-- without the parts of the rules with this number
abbrev pub others : ℕ → List Entered → List Entered
others number all = filter (λ entered. not (entered.0 == number)) all

-- the same numbers, patterns and anchors
pub record AreSame (rules copies : List Rule) : Type 0 where
  pub seen : map rule_in copies ≡ map rule_in rules
  pub entered : entered_by_all copies ≡ entered_by_all rules
