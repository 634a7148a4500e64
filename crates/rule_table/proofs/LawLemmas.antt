-- What a change leaves as it was: `other_stays`, and of matching `put_matching`, `removed_matching` and `policy_matching`.
use Rattle.std.proofs.Common.{◌≡◌, ◌+◌, ℕ, List, [], ◌∷◌, map, Option, Some, None, refl, ap}
use Rattle.std.specs.Str.{bytes_eq}
use Rattle.name_rows.specs.Rows.{named, replacing}
use Rattle.name_rows.proofs.RowLemmas.{by_test}
use Rattle.rule_table.specs.Control.{Control, bus_created, bus_deleted, rule_put, rule_deleted, state_put, targets_put, targets_removed, policy_put}
use Rattle.rule_table.specs.Control.{queue_created, queue_deleted, archive_created, archive_updated, archive_deleted}
use Rattle.rule_table.specs.Altered.{changed_bus, matching_of, matching_of_rule}
use Rattle.rule_table.specs.RuleSet.{Rule, Bus, RuleSet, changed, with_rule_changed, applied, new_rule, put_rule, without_rule, put_targets, without_targets}
use Rattle.rule_targets.specs.declared.target.Target.{Target}
use Rattle.rule_table.proofs.RowLemmas.{named_changed, named_put, named_without}

map_changed : {A C : Type 0} (h : A → C) (f : A → List ℕ) (name : List ℕ) (change : A → A) (rows : List A) → ((row : A) → h (change row) ≡ h row)
    → map h (changed f name change rows) ≡ map h rows
map_changed h f name change [] same = refl
map_changed h f name change (row ∷ rows) same =
    let rest = map_changed h f name change rows same in
    by_test (bytes_eq (f row) name)
    (λ e. rw (e, same row, rest) refl)
    (λ e. rw (e, rest) refl)

bus_stays : (name other : List ℕ) (change : Bus → Bus) (set : RuleSet) → ((b : Bus) → (change b).name ≡ b.name) → ¬ (Some name ≡ Some other)
    → named (λ b. b.name) other (changed (λ b. b.name) name change set.buses) ≡ named (λ b. b.name) other set.buses
bus_stays name other change set same apart = named_changed (λ b. b.name) name other change set.buses same (λ e. apart (ap (λ n. Some n) e))

pub other_stays : (control : Control) (set : RuleSet) (bus : List ℕ) → ¬ (changed_bus control ≡ Some bus)
    → named (λ b. b.name) bus (applied control set).buses ≡ named (λ b. b.name) bus set.buses
other_stays (bus_created name) set bus apart =
    let new : Bus = record { name = name; policy = None; rules = [] } in
    named_put (λ (b : Bus). b.name) replacing new bus set.buses (λ old. refl) (λ e. apart (ap (λ n. Some n) e))
other_stays (bus_deleted name) set bus apart = named_without (λ (b : Bus). b.name) name bus set.buses (λ e. apart (ap (λ n. Some n) e))
other_stays (rule_put name rule pattern enabled) set bus apart =
    let new : Rule = new_rule name rule pattern enabled in
    bus_stays name bus (λ b. record b { rules = put_rule new b.rules }) set (λ b. refl) apart
other_stays (rule_deleted name rule) set bus apart = bus_stays name bus (λ b. record b { rules = without_rule rule b.rules }) set (λ b. refl) apart
other_stays (state_put name rule enabled) set bus apart =
    bus_stays name bus (with_rule_changed rule (λ r. record r { enabled = enabled })) set (λ b. refl) apart
other_stays (targets_put name rule targets) set bus apart =
    bus_stays name bus (with_rule_changed rule (λ r. record r { targets = put_targets targets r.targets })) set (λ b. refl) apart
other_stays (targets_removed name rule ids) set bus apart =
    bus_stays name bus (with_rule_changed rule (λ r. record r { targets = without_targets ids r.targets })) set (λ b. refl) apart
other_stays (policy_put name policy) set bus apart = bus_stays name bus (λ b. record b { policy = policy }) set (λ b. refl) apart
other_stays (queue_created name) set bus apart = refl
other_stays (queue_deleted name) set bus apart = refl
other_stays (archive_created name on pattern days) set bus apart = refl
other_stays (archive_updated name pattern days) set bus apart = refl
other_stays (archive_deleted name) set bus apart = refl

-- ---- what matching reads

-- a rule of a bus is changed, and keeps its name, its pattern and its state
same_matching : (bus rule : List ℕ) (change : Rule → Rule) (set : RuleSet) → ((r : Rule) → matching_of_rule (change r) ≡ matching_of_rule r)
    → matching_of (record set { buses = changed (λ b. b.name) bus (with_rule_changed rule change) set.buses; count = set.count + 1 }) ≡ matching_of set
same_matching bus rule change set same =
    ap (λ buses. (buses, set.archives)) (map_changed (λ (b : Bus). (b.name, map matching_of_rule b.rules)) (λ b. b.name) bus (with_rule_changed rule change) set.buses
    (λ b. ap (λ rs. (b.name, rs)) (map_changed matching_of_rule (λ r. r.name) rule change b.rules same)))

pub put_matching : (bus rule : List ℕ) (targets : List Target) (set : RuleSet) → matching_of (applied (targets_put bus rule targets) set) ≡ matching_of set
put_matching bus rule targets set = same_matching bus rule (λ r. record r { targets = put_targets targets r.targets }) set (λ r. refl)

pub removed_matching : (bus rule : List ℕ) (ids : List (List ℕ)) (set : RuleSet)
    → matching_of (applied (targets_removed bus rule ids) set) ≡ matching_of set
removed_matching bus rule ids set = same_matching bus rule (λ r. record r { targets = without_targets ids r.targets }) set (λ r. refl)

pub policy_matching : (bus : List ℕ) (policy : Option (List ℕ)) (set : RuleSet) → matching_of (applied (policy_put bus policy) set) ≡ matching_of set
policy_matching bus policy set =
    ap (λ buses. (buses, set.archives))
    (map_changed (λ (b : Bus). (b.name, map matching_of_rule b.rules)) (λ b. b.name) bus (λ b. record b { policy = policy }) set.buses (λ b. refl))
