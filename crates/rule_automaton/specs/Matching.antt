-- For private clauses alone: what a match finds, and what it decides.
use Rattle.std.specs.Prelude.{◌≡◌, ◌<◌, ◌⊎◌, ℕ, Bool, false, IsTrue, List, length, slice_index_or, All, Contains}
use Rattle.std.specs.declared.alloc.Global.{Global}
use Rattle.std.specs.declared.sync.Arc.{Arc}
use Rattle.json_text.specs.Tree.{Tree}
use Rattle.pattern_meaning.specs.Holds.{IsMet}
use Rattle.value_index.specs.Hits.{Entry}
use Rattle.value_index.specs.declared.index.PathIndex.{PathIndex}
use Rattle.rule_automaton.specs.declared.rule.Rule.{Rule}
use Rattle.rule_automaton.specs.declared.table.Table.{Table}
use Rattle.rule_automaton.specs.Rules.{TextHolds}
use Rattle.rule_automaton.specs.Table.{entries_in}

-- the entries of the index at a place
abbrev pub entries_at : Table → ℕ → Arc PathIndex Global → List Entry
entries_at table place index = entries_in (slice_index_or table.indexes.items place index)

-- each mark of the table is below a number
abbrev pub AreBelow : ℕ → Table → Type 0
AreBelow places table = (place : ℕ) (index : Arc PathIndex Global) → place < length table.paths → All (λ entry. entry.1 < places) (entries_at table place index)

-- the mark of each test that one of the leaves meets is marked; others may be
pub record AreFound (table : Table) (leaves : List (ℕ × Tree)) (old new : List Bool) : Type 0 where
  pub same_places : length new ≡ length old
  pub marked : (leaf : ℕ × Tree) (index : Arc PathIndex Global) (entry : Entry) → Contains leaves leaf
      → Contains (entries_at table leaf.0 index) entry → IsMet entry.0 leaf.1 → IsTrue (slice_index_or new entry.1 false)

-- the rule is marked, or it has no anchors
abbrev pub CanHold : List Bool → Rule → Type 0
CanHold marks rule = (rule.anchored ≡ false) ⊎ IsTrue (slice_index_or marks rule.number false)

-- a rule with this number can hold, and its pattern holds
abbrev pub IsDecided : List Rule → Tree → List Bool → ℕ → Type 0
IsDecided rules event marks number =
    (rule : Rule) × Contains rules rule × (rule.number ≡ number) × CanHold marks rule × TextHolds rule.pattern event

-- exactly the rules that can hold and do hold are marked
pub record AreDecided (rules : List Rule) (event : Tree) (old new : List Bool) : Type 0 where
  pub same_places : length new ≡ length old
  pub only : (place : ℕ) → IsTrue (slice_index_or new place false) → IsDecided rules event old place
  pub all : (place : ℕ) → IsDecided rules event old place → IsTrue (slice_index_or new place false)
