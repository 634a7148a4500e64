-- What a change may alter: the bus that it names, what matching reads of a rule set, and the rules and targets that are there.
use Rattle.std.specs.Prelude.{ℕ, Bool, List, Option, Some, None, map, is_some}
use Rattle.name_rows.specs.Rows.{named}
use Rattle.rule_table.specs.Control.{Control, bus_created, bus_deleted, rule_put, rule_deleted, state_put, targets_put, targets_removed, policy_put}
use Rattle.rule_table.specs.Control.{queue_created, queue_deleted, archive_created, archive_updated, archive_deleted}
use Rattle.rule_table.specs.RuleSet.{Archive, Rule, RuleSet, targets_of}

-- The bus that a change names; none for a change of a queue, or of an archive that is there.
-- Shown by: law other_buses_stay.
abbrev pub changed_bus : Control → Option (List ℕ)
changed_bus (bus_created name) = Some name
changed_bus (bus_deleted name) = Some name
changed_bus (rule_deleted bus name) = Some bus
changed_bus (state_put bus name enabled) = Some bus
changed_bus (targets_removed bus rule ids) = Some bus
changed_bus (rule_put bus name pattern enabled) = Some bus
changed_bus (targets_put bus rule targets) = Some bus
changed_bus (policy_put bus policy) = Some bus
changed_bus (queue_created name) = None
changed_bus (queue_deleted name) = None
changed_bus (archive_created name bus pattern days) = Some bus
changed_bus (archive_updated name pattern days) = None
changed_bus (archive_deleted name) = None

-- a rule's name, its pattern's text, and whether it is enabled
abbrev pub matching_of_rule : Rule → List ℕ × List ℕ × Bool
matching_of_rule rule = (rule.name, rule.pattern, rule.enabled)

-- What matching reads: each bus with its rules' names, patterns and states; and the archives.
-- Shown by: law matching_stays.
abbrev pub matching_of : RuleSet → List (List ℕ × List (List ℕ × List ℕ × Bool)) × List Archive
matching_of set = (map (λ bus. (bus.name, map matching_of_rule bus.rules)) set.buses, set.archives)

-- The rule has a target of this id.
-- Shown by: law only_its_call_removes.
abbrev pub has_target_of_rule : List ℕ → List ℕ → List ℕ → RuleSet → Bool
has_target_of_rule bus rule id set = is_some (named (λ target. target.id) id (targets_of bus rule set))
