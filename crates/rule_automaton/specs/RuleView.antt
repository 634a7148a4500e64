-- A rule as contracts see it.
use Rattle.std.specs.Prelude.{ℕ, List}
use Rattle.rule_automaton.specs.declared.rule.Rule.{Rule}

-- The number of a rule, and the text of its pattern.
-- Shown by: event_tests test_rule_automaton.rt: rules_are_marked.
abbrev pub rule_in : Rule → ℕ × List ℕ
rule_in rule = (rule.number, rule.pattern)
