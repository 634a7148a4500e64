-- The rule set: buses with their rules, queues, and the number of changes that made it; and what a change does. The data model is that of
-- the Amazon EventBridge API Reference.
use Rattle.std.specs.Prelude.{ℕ, ◌+◌, Bool, false, ◌||◌, if◌then◌else◌, List, [], ◌∷◌, map, filter, take, Option, Some, None, is_some}
use Rattle.std.specs.List.{list_any}
use Rattle.std.specs.Str.{bytes_eq}
use Rattle.event_shape.specs.Names.{default_bus, rule_arn, queue_arn}
use Rattle.name_rows.specs.Rows.{named, placed, replacing, without}
use Rattle.rule_targets.specs.declared.target.Target.{Target}
use Rattle.rule_table.specs.Control.{Control, bus_created, bus_deleted, rule_put, rule_deleted, state_put, targets_put, targets_removed, policy_put}
use Rattle.rule_table.specs.Control.{queue_created, queue_deleted, archive_created, archive_updated, archive_deleted}

-- A rule: its ARN, its name, its pattern's text, whether it is enabled, and its targets in the byte order of their ids.
-- Shown by: tables rule_table.rows: each_change_is_made_or_refused.
pub record Rule : Type 0 where
  pub arn : List ℕ
  pub name : List ℕ
  pub pattern : List ℕ
  pub enabled : Bool
  pub targets : List Target

-- A bus: its name, its policy's text if it has a policy, and its rules in the byte order of their names.
-- Shown by: tables rule_table.rows: a_bus_shows_its_rule, each_policy_is_put_or_refused.
pub record Bus : Type 0 where
  pub name : List ℕ
  pub policy : Option (List ℕ)
  pub rules : List Rule

-- What matching has to know of an archive: its name, its bus, its pattern's text if it has a pattern, and the configuration version after
-- its creation.
-- Shown by: proofs alone.
pub record Archive : Type 0 where
  pub name : List ℕ
  pub bus : List ℕ
  pub pattern : Option (List ℕ)
  pub made : ℕ

-- The configuration: buses, queues and archives, each in the byte order of their names, and the number of changes that made it.
-- Shown by: tables rule_table.rows: each_change_is_made_or_refused.
pub record RuleSet : Type 0 where
  pub buses : List Bus
  pub queues : List (List ℕ)
  pub archives : List Archive
  pub count : ℕ

-- The bus `default` without rules, no queue and no archive.
-- Shown by: tables rule_table.rows: the_first_set_has_one_bus, a_set_shows_its_queues.
abbrev pub first_set : RuleSet
first_set = record { buses = record { name = default_bus; policy = None; rules = [] } ∷ []; queues = []; archives = []; count = 0 }

-- The rows, with a change made to each one of the name.
-- Shown by: tables rule_table.rows: each_change_is_made_or_refused.
abbrev pub changed : {A : Type 0} → (A → List ℕ) → List ℕ → (A → A) → List A → List A
changed name_of name change rows = map (λ row. if bytes_eq (name_of row) name then change row else row) rows

-- A rule of a bus, with the ARN that names both, and without a target.
-- Shown by: tables rule_table.rows: a_bus_shows_its_rule.
abbrev pub new_rule : (bus name pattern : List ℕ) → Bool → Rule
new_rule bus name pattern enabled = record { arn = rule_arn bus name; name = name; pattern = pattern; enabled = enabled; targets = [] }

-- the new rule, with the targets of the rule that it replaces
abbrev pub keeping_targets : Rule → Rule → Rule
keeping_targets old new = record new { targets = old.targets }

-- A rule put into its bus; one that existed keeps its targets.
-- Shown by: a_rule_put_again_loses_its_targets.edit.
abbrev pub put_rule : Rule → List Rule → List Rule
put_rule = placed (λ rule. rule.name) keeping_targets

-- One target put to a rule's targets; the one with the same id is replaced.
-- Shown by: targets.
abbrev pub put_target : Target → List Target → List Target
put_target = placed (λ target. target.id) replacing

-- Targets put one after the other; one with the same id is replaced, so the last one counts.
-- Shown by: tables rule_table.rows: each_change_is_made_or_refused.
abbrev pub put_targets : List Target → List Target → List Target
put_targets [] targets = targets
put_targets (new ∷ news) targets = put_targets news (put_target new targets)

-- the targets without those of these ids
abbrev pub without_targets : List (List ℕ) → List Target → List Target
without_targets [] targets = targets
without_targets (id ∷ ids) targets = without_targets ids (without (λ target. target.id) id targets)

-- the buses with one more, which has no policy and no rule
abbrev pub put_bus : List ℕ → List Bus → List Bus
put_bus name = placed (λ bus. bus.name) replacing (record { name = name; policy = None; rules = [] })

-- the buses without the one of this name
abbrev pub without_bus : List ℕ → List Bus → List Bus
without_bus = without (λ bus. bus.name)

-- the rules without the one of this name
abbrev pub without_rule : List ℕ → List Rule → List Rule
without_rule = without (λ rule. rule.name)

-- the queues with one more
abbrev pub put_queue : List ℕ → List (List ℕ) → List (List ℕ)
put_queue = placed (λ name. name) replacing

-- the queues without the one of this name
abbrev pub without_queue : List ℕ → List (List ℕ) → List (List ℕ)
without_queue = without (λ name. name)

-- the archives with one more
abbrev pub put_archive : Archive → List Archive → List Archive
put_archive = placed (λ archive. archive.name) replacing

-- the archives without the one of this name
abbrev pub without_archive : List ℕ → List Archive → List Archive
without_archive = without (λ archive. archive.name)

-- the archives with this pattern for the one of this name, or with none
abbrev pub with_pattern : List ℕ → Option (List ℕ) → List Archive → List Archive
with_pattern name pattern = changed (λ archive. archive.name) name (λ archive. record archive { pattern = pattern })

-- the rules of the bus; none if there is no bus
abbrev pub rules_in : Option Bus → List Rule
rules_in None = []
rules_in (Some bus) = bus.rules

-- The rules of a bus, none if there is no such bus.
-- Shown by: tables rule_table.rows: a_set_shows_its_queues, a_bus_shows_its_rule.
abbrev pub rules_of : List ℕ → RuleSet → List Rule
rules_of bus set = rules_in (named (λ b. b.name) bus set.buses)

-- The rule of this name on the bus, if there is one.
-- Shown by: tables rule_table.rows: each_change_is_made_or_refused.
abbrev pub rule_at : List ℕ → List ℕ → RuleSet → Option Rule
rule_at bus name set = named (λ rule. rule.name) name (rules_of bus set)

-- The targets of a rule, none if there is no rule.
-- Shown by: tables rule_table.rows: a_rule_shows_its_target; table_tests test_rule_table.rt: a_target_has_its_row.
abbrev pub targets_in : Option Rule → List Target
targets_in None = []
targets_in (Some rule) = rule.targets

-- The bus has a rule of this name.
-- Shown by: law only_its_call_removes.
abbrev pub has_rule : List ℕ → List ℕ → RuleSet → Bool
has_rule bus name set = is_some (rule_at bus name set)

-- The targets of the rule of this name on the bus, none if there is no such rule.
-- Shown by: tables rule_table.rows: a_rule_shows_its_target; table_tests test_rule_table.rt: a_target_has_its_row.
abbrev pub targets_of : List ℕ → List ℕ → RuleSet → List Target
targets_of bus name set = targets_in (rule_at bus name set)

-- The bus exists.
-- Shown by: tables rule_table.rows: a_set_shows_its_queues, a_bus_shows_its_rule.
abbrev pub has_bus : List ℕ → RuleSet → Bool
has_bus bus set = is_some (named (λ b. b.name) bus set.buses)

-- The queue exists.
-- Shown by: tables rule_table.rows: a_set_shows_its_queues, a_bus_shows_its_rule.
abbrev pub has_queue : List ℕ → RuleSet → Bool
has_queue name set = is_some (named (λ queue. queue) name set.queues)

-- The archive of this name, if there is one.
-- Shown by: proofs alone.
abbrev pub archive_at : List ℕ → RuleSet → Option Archive
archive_at name set = named (λ archive. archive.name) name set.archives

-- The archive exists.
-- Shown by: proofs alone.
abbrev pub has_archive : List ℕ → RuleSet → Bool
has_archive name set = is_some (archive_at name set)

-- The archives of a bus, in the byte order of their names.
-- Shown by: proofs alone.
abbrev pub archives_of : List ℕ → RuleSet → List Archive
archives_of bus set = filter (λ archive. bytes_eq archive.bus bus) set.archives

-- the ARN of a dead-letter queue, if one is given, is that of the queue of this name
abbrev pub is_dead_letter_of : List ℕ → Option (List ℕ) → Bool
is_dead_letter_of queue None = false
is_dead_letter_of queue (Some arn) = bytes_eq arn (queue_arn queue)

-- the target names the queue, as its own or as its dead-letter queue
abbrev pub is_used_by_target : List ℕ → Target → Bool
is_used_by_target queue target = bytes_eq target.arn (queue_arn queue) || is_dead_letter_of queue target.dead_letter

-- a target of the rule names the queue
abbrev pub is_used_by_rule : List ℕ → Rule → Bool
is_used_by_rule queue rule = list_any (is_used_by_target queue) rule.targets

-- a target of a rule of the bus names the queue
abbrev pub is_used_by_bus : List ℕ → Bus → Bool
is_used_by_bus queue bus = list_any (is_used_by_rule queue) bus.rules

-- A target of a rule of some bus has the queue's ARN, as its own ARN or as that of its dead-letter queue.
-- Shown by: a_queue_in_use_is_deleted.edit.
abbrev pub is_queue_used : List ℕ → RuleSet → Bool
is_queue_used queue set = list_any (is_used_by_bus queue) set.buses

-- the bus with a change of its rule of this name
abbrev pub with_rule_changed : List ℕ → (Rule → Rule) → Bus → Bus
with_rule_changed rule change b = record b { rules = changed (λ r. r.name) rule change b.rules }

-- The rule set after a change.
-- Shown by: tables rule_table.rows: each_change_is_made_or_refused.
abbrev pub applied : Control → RuleSet → RuleSet
applied (bus_created name) set = record set { buses = put_bus name set.buses; count = set.count + 1 }
applied (bus_deleted name) set = record set { buses = without_bus name set.buses; count = set.count + 1 }
applied (rule_deleted bus name) set = record set {
  buses = changed (λ b. b.name) bus (λ b. record b { rules = without_rule name b.rules }) set.buses;
  count = set.count + 1;
}
applied (state_put bus name enabled) set = record set {
  buses = changed (λ b. b.name) bus (with_rule_changed name (λ r. record r { enabled = enabled })) set.buses;
  count = set.count + 1;
}
applied (targets_removed bus rule ids) set = record set {
  buses = changed (λ b. b.name) bus (with_rule_changed rule (λ r. record r { targets = without_targets ids r.targets })) set.buses;
  count = set.count + 1;
}
applied (policy_put bus policy) set = record set {
  buses = changed (λ b. b.name) bus (λ b. record b { policy = policy }) set.buses;
  count = set.count + 1;
}
applied (rule_put bus name pattern enabled) set = record set {
  buses = changed (λ b. b.name) bus (λ b. record b { rules = put_rule (new_rule bus name pattern enabled) b.rules }) set.buses;
  count = set.count + 1;
}
applied (targets_put bus rule targets) set = record set {
  buses = changed (λ b. b.name) bus (λ b. record b
      { rules = changed (λ r. r.name) rule (λ r. record r { targets = put_targets targets r.targets }) b.rules }) set.buses;
  count = set.count + 1;
}
applied (queue_created name) set = record set { queues = put_queue name set.queues; count = set.count + 1 }
applied (queue_deleted name) set = record set { queues = without_queue name set.queues; count = set.count + 1 }
applied (archive_created name bus pattern days) set = record set {
  archives = put_archive (record { name = name; bus = bus; pattern = pattern; made = set.count + 1 }) set.archives;
  count = set.count + 1;
}
applied (archive_updated name pattern days) set = record set { archives = with_pattern name pattern set.archives; count = set.count + 1 }
applied (archive_deleted name) set = record set { archives = without_archive name set.archives; count = set.count + 1 }

-- the rule set after these changes, oldest first
abbrev pub applied_all : List Control → RuleSet → RuleSet
applied_all [] set = set
applied_all (control ∷ controls) set = applied_all controls (applied control set)

-- Configuration version k: the rule set after the first k changes of a list, oldest first.
-- Shown by: tables rule_table.rows: each_change_is_made_or_refused.
abbrev pub rule_set_at : ℕ → List Control → RuleSet
rule_set_at k controls = applied_all (take k controls) first_set
