-- For private clauses alone: the rules that the automaton of a bus knows.
use Rattle.std.specs.Prelude.{◌≡◌, ◌<◌, ◌↔◌, ℕ, List, Option, Some, None, All, Contains}
use Rattle.name_rows.specs.Rows.{AreSorted, named}
use Rattle.board_publish.specs.declared.entered.Entered.{Entered}

-- the rule of this name, if it is entered
abbrev pub entered_as : List ℕ → List Entered → Option Entered
entered_as name rules = named (λ rule. rule.name) name rules

-- exactly this pattern has the number
abbrev pub HasNumber : List (ℕ × List ℕ) → ℕ → List ℕ → Type 0
HasNumber patterns number pattern = (other : List ℕ) → Contains patterns (number, other) ↔ (other ≡ pattern)

-- a rule with this pattern is entered under its number; a rule without one is not entered
abbrev pub Fits : List (ℕ × List ℕ) → Option (List ℕ) → Option Entered → Type 0
Fits patterns None rule = rule ≡ None
Fits patterns (Some pattern) None = ⊥
Fits patterns (Some pattern) (Some rule) = HasNumber patterns rule.number pattern

-- The rules are in the byte order of their names. Each has a number of its own below `places`, and each number of a pattern is that of a rule.
pub record AreNumbered (patterns : List (ℕ × List ℕ)) (rules : List Entered) (places : ℕ) : Type 0 where
  pub order : AreSorted (λ rule. rule.name) rules
  pub below : All (λ rule. rule.number < places) rules
  pub apart : (name other : List ℕ) (rule one : Entered) → entered_as name rules ≡ Some rule → entered_as other rules ≡ Some one
      → rule.number ≡ one.number → name ≡ other
  pub known : (pattern : ℕ × List ℕ) → Contains patterns pattern → (name : List ℕ) × (rule : Entered) × (entered_as name rules ≡ Some rule)
      × (rule.number ≡ pattern.0)
