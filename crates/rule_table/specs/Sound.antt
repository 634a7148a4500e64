-- What holds of every rule set that allowed changes, whose texts are spelled right (`IsSpelled`), made from the first one.
use Rattle.std.specs.Prelude.{◌≡◌, ◌≤◌, ℕ, true, List, length, None, All}
use Rattle.json_text.specs.Checks.{first_fault}
use Rattle.event_shape.specs.Names.{default_bus, rule_arn}
use Rattle.name_rows.specs.Rows.{AreSorted}
use Rattle.rule_targets.specs.declared.target.Target.{Target}
use Rattle.rule_targets.specs.Target.{asked_of}
use Rattle.archive_keep.specs.Archives.{most_archives}
use Rattle.rule_table.specs.RuleSet.{Rule, RuleSet, has_bus}
use Rattle.rule_table.specs.Refusal.{own_checks}
use Rattle.rule_table.specs.WellFormed.{IsNoneOrStored, HasValidInput}

-- The target may be stored: it has none of the faults that it can have whatever other targets its rule has (`own_checks`), and its input is
-- valid.
-- Shown by: target-members.
pub record IsSoundTarget (set : RuleSet) (target : Target) : Type 0 where
  pub checked : first_fault (own_checks set (asked_of target)) ≡ None
  pub input : HasValidInput target

-- the rule has at most five targets, each of which may be stored
abbrev pub HasSoundTargets : RuleSet → Rule → Type 0
HasSoundTargets set rule = (length rule.targets ≤ 5) × All (IsSoundTarget set) rule.targets

-- The rule's ARN names the rule and this bus.
-- Shown by: tables rule_table.rows: a_bus_shows_its_rule.
abbrev pub HasItsArn : List ℕ → Rule → Type 0
HasItsArn bus rule = rule.arn ≡ rule_arn bus rule.name

-- There are at most 100 archives, in the byte order of their names, which are distinct. The bus of each exists, and each was made by one of
-- the changes.
-- Shown by: proofs alone.
pub record AreArchivesSound (set : RuleSet) : Type 0 where
  pub few : length set.archives ≤ most_archives
  pub order : AreSorted (λ archive. archive.name) set.archives
  pub buses : All (λ archive. has_bus archive.bus set ≡ true) set.archives
  pub versions : All (λ archive. (1 ≤ archive.made) × (archive.made ≤ set.count)) set.archives

-- What holds of every rule set that allowed changes, whose texts are spelled right (`IsSpelled`), made from the first one. There are at
-- most 100 buses, one of which is `default`; each bus has at most 300 rules, each rule at most five targets, each of which is sound
-- (`IsSoundTarget`); and there are at most 1,000 queues. Each rule has the ARN that names it and its bus. Each policy is as it is stored.
-- Buses, rules, targets and queues are in the byte order of their names, which are distinct. Archives are sound (`AreArchivesSound`).
-- Shown by: targets.
pub record IsSound (set : RuleSet) : Type 0 where
  pub buses : length set.buses ≤ 100
  pub rules : All (λ bus. length bus.rules ≤ 300) set.buses
  pub arns : All (λ bus. All (HasItsArn bus.name) bus.rules) set.buses
  pub targets : All (λ bus. All (HasSoundTargets set) bus.rules) set.buses
  pub queues : length set.queues ≤ 1000
  pub default : has_bus default_bus set ≡ true
  pub policies : All (λ bus. IsNoneOrStored bus.policy) set.buses
  pub bus_order : AreSorted (λ bus. bus.name) set.buses
  pub rule_order : All (λ bus. AreSorted (λ rule. rule.name) bus.rules) set.buses
  pub target_order : All (λ bus. All (λ rule. AreSorted (λ target. target.id) rule.targets) bus.rules) set.buses
  pub queue_order : AreSorted (λ queue. queue) set.queues
  pub archives : AreArchivesSound set
