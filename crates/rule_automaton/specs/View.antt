-- An automaton as contracts see it.
use Rattle.std.specs.Prelude.{ℕ, List, map}
use Rattle.rule_automaton.specs.declared.automaton.Automaton.{Automaton}
use Rattle.rule_automaton.specs.RuleView.{rule_in}

-- The rules of an automaton, each with its number and the text of its pattern.
-- Shown by: event_tests test_rule_automaton.rt: rules_are_marked.
abbrev pub rules_of : Automaton → List (ℕ × List ℕ)
rules_of automaton = map rule_in automaton.rules.items

-- The paths at which an automaton wants the leaves of an event.
-- Shown by: proofs alone.
abbrev pub paths_of : Automaton → List (List (List ℕ))
paths_of automaton = automaton.table.paths
