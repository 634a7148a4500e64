-- For private clauses alone: the automata of a rule set's buses.
use Rattle.std.specs.Prelude.{◌≡◌, ◌⊎◌, ℕ, if◌then◌else◌, List, Option, Some, None}
use Rattle.name_rows.specs.Rows.{named}
use Rattle.rule_table.specs.RuleSet.{Rule, RuleSet, rule_at}
use Rattle.board_publish.specs.Entered.{entered_as, Fits}
use Rattle.board_publish.specs.MatcherView.{Matcher}

-- the pattern of the rule, if it is enabled
abbrev pub enabled_in : Option Rule → Option (List ℕ)
enabled_in None = None
enabled_in (Some rule) = if rule.enabled then Some rule.pattern else None

-- the pattern of the rule of this name on the bus, if there is one and it is enabled
abbrev pub enabled_at : (bus name : List ℕ) → RuleSet → Option (List ℕ)
enabled_at bus name set = enabled_in (rule_at bus name set)

-- the automaton of the bus, if it has one
abbrev pub matcher_of : List ℕ → List Matcher → Option Matcher
matcher_of bus matchers = named (λ matcher. matcher.bus) bus matchers

-- the rule of this name is entered with the pattern; without one it is not entered
abbrev pub HasRule : Matcher → List ℕ → Option (List ℕ) → Type 0
HasRule matcher name pattern = Fits matcher.patterns pattern (entered_as name matcher.entered)

-- the same of a bus that may have no automaton
abbrev pub IsKnown : Option (List ℕ) → List ℕ → Option Matcher → Type 0
IsKnown pattern name None = pattern ≡ None
IsKnown pattern name (Some matcher) = HasRule matcher name pattern

-- exactly the enabled rules are entered, each with its pattern
abbrev pub AreMatchersOf : RuleSet → List Matcher → Type 0
AreMatchersOf set matchers = (bus name : List ℕ) → IsKnown (enabled_at bus name set) name (matcher_of bus matchers)

-- the rule of this name is now entered with the pattern, or not entered, and the other rules of the bus are as they were
pub record Enters (old new : Matcher) (name : List ℕ) (pattern : Option (List ℕ)) : Type 0 where
  pub same_bus : new.bus ≡ old.bus
  pub this : HasRule new name pattern
  pub others : (other : List ℕ) (wanted : Option (List ℕ)) → ¬ (name ≡ other) → HasRule old other wanted → HasRule new other wanted

-- the rule of this name on the bus is now entered with the pattern, or not entered, and all other rules are as they were
pub record Changes (old new : List Matcher) (bus name : List ℕ) (pattern : Option (List ℕ)) : Type 0 where
  pub this : IsKnown pattern name (matcher_of bus new)
  pub others : (other one : List ℕ) (wanted : Option (List ℕ)) → (¬ (bus ≡ other)) ⊎ (¬ (name ≡ one)) → IsKnown wanted one (matcher_of other old)
      → IsKnown wanted one (matcher_of other new)
