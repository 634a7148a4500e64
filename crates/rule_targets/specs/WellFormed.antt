-- What the names, the targets and the ids of a change have to be whatever the rule set is. The syntax and the numbers are those of the
-- Amazon EventBridge API Reference.
use Rattle.std.specs.Prelude.{ℕ, Bool, ◌&&◌, not, nat_le, is_some, IsTrue, List, length}
use Rattle.std.specs.List.{list_all}
use Rattle.event_shape.specs.Names.{is_bus_name, is_short_name}
use Rattle.rule_targets.specs.declared.target.Target.{Target}
use Rattle.rule_targets.specs.Target.{asked_of}
use Rattle.rule_targets.specs.Checks.{member_fault}

-- The names of a bus and of a rule, by their syntax.
-- Shown by: table_tests test_rule_table.rt: changes_are_well_formed.
abbrev pub names_rule : List ℕ → List ℕ → Bool
names_rule bus name = is_bus_name bus && is_short_name name

-- The names pass `names_rule`.
-- Shown by: table_tests test_rule_table.rt: changes_are_well_formed.
abbrev pub NamesRule : List ℕ → List ℕ → Type 0
NamesRule bus name = IsTrue (names_rule bus name)

-- from 1 to 100
abbrev pub are_few : ℕ → Bool
are_few count = nat_le 1 count && nat_le count 100

-- no member of the target has a fault
abbrev pub is_target_formed : Target → Bool
is_target_formed target = not (is_some (member_fault (asked_of target)))

-- From 1 to 100 targets, no member of which has a fault (`member_fault`).
-- Shown by: a_hundred_and_one_targets_are_well_formed.edit.
abbrev pub are_targets_formed : List Target → Bool
are_targets_formed targets = are_few (length targets) && list_all is_target_formed targets

-- From 1 to 100 ids of targets.
-- Shown by: table_tests test_rule_table.rt: changes_are_well_formed.
abbrev pub are_ids_formed : List (List ℕ) → Bool
are_ids_formed ids = are_few (length ids) && list_all is_short_name ids
