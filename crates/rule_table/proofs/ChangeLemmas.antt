-- When the bus is known: what does a change make, and is it allowed? For the answers of the calls that change one bus (`bus_made`) or
-- one rule (`bus_of_rule`, `rule_passes`, `after_rule`, `rule_made`, `targets_sorted`), and of `Bus::with_rule` (`arns_of`, `pattern_put`).
use Rattle.std.proofs.Common.{◌≡◌, ◌++◌, ◌+◌, ℕ, Bool, true, List, [], ◌∷◌, Option, Some, None, is_some, refl, ap, sym, ◌∙◌, subst}
use Rattle.std.specs.Prelude.{All}
use Rattle.event_shape.specs.Names.{rule_arn}
use Rattle.name_rows.specs.Rows.{AreSorted, named, placed, replacing}
use Rattle.json_text.specs.Checks.{unless, first_fault}
use Rattle.rule_targets.specs.declared.target.Target.{Target}
use Rattle.rule_targets.proofs.CheckLemmas.{passed_front}
use Rattle.rule_table.specs.declared.control.ControlFault.{ControlFault}
use Rattle.rule_table.specs.RuleSet.{Rule, Bus, RuleSet, changed, new_rule, keeping_targets, with_rule_changed, rules_in, rule_at, targets_in, targets_of, applied}
use Rattle.rule_table.specs.Control.{Control}
use Rattle.rule_table.specs.Refusal.{rule_checks, IsAllowed}
use Rattle.rule_table.proofs.SortedLemmas.{HasStored, sound_applied}
use Rattle.rule_table.specs.Sound.{HasItsArn, IsSound}
use Rattle.rule_table.proofs.RowLemmas.{changed_placed, named_name, All_named}

-- the bus with this name
abbrev pub IsFound : RuleSet → List ℕ → Bus → Type 0
IsFound rules name old = named (λ bus. bus.name) name rules.buses ≡ Some old

pub found_changed : (rules : RuleSet) (name : List ℕ) (old : Bus) (change : Bus → Bus) (new : Bus) → IsFound rules name old
    → IsSound rules → ((bus : Bus) → (change bus).name ≡ bus.name) → new ≡ change old
    → placed (λ bus. bus.name) replacing new rules.buses ≡ changed (λ bus. bus.name) name change rules.buses
found_changed rules name old change new f k c e =
    ap (λ bus. placed (λ b. b.name) replacing bus rules.buses) e
    ∙ sym (changed_placed (λ bus. bus.name) name change rules.buses old c k.bus_order f)

-- the bus has this rule of the name
abbrev pub IsFoundIn : Bus → List ℕ → Rule → Type 0
IsFoundIn bus name rule = named (λ r. r.name) name bus.rules ≡ Some rule

pub rule_found : (bus rule : List ℕ) (rules : RuleSet) (old : Bus) (r : Rule) → IsFound rules bus old → IsFoundIn old rule r
    → rule_at bus rule rules ≡ Some r
rule_found bus rule rules old r f there = ap (λ o. named (λ r. r.name) rule (rules_in o)) f ∙ there

-- a rule that is there has its bus
pub bus_of_rule : (o : Option Bus) (rule : List ℕ) (r : Rule) → named (λ r. r.name) rule (rules_in o) ≡ Some r → is_some o ≡ true
bus_of_rule None rule r is = absurd cc
bus_of_rule (Some b) rule r is = refl

pub rule_passes : (bus rule : List ℕ) (rules : RuleSet) (r : Rule) → rule_at bus rule rules ≡ Some r → first_fault (rule_checks bus rule rules) ≡ None
rule_passes bus rule rules r is = rw (bus_of_rule (named (λ b. b.name) bus rules.buses) rule r is, ap is_some is) refl

-- the rule is there, so the condition on its targets decides
pub after_rule : (bus rule : List ℕ) (rules : RuleSet) (r : Rule) (test : List Target → Bool) (fault : ControlFault) (b : Bool)
    → rule_at bus rule rules ≡ Some r → test r.targets ≡ b
    → first_fault (rule_checks bus rule rules ++ unless (test (targets_of bus rule rules)) fault ∷ []) ≡ first_fault (unless b fault ∷ [])
after_rule bus rule rules r test fault b is e =
    passed_front (rule_checks bus rule rules) _ (rule_passes bus rule rules r is)
    ∙ ap (λ passes. first_fault (unless passes fault ∷ [])) (ap (λ o. test (targets_in o)) is ∙ e)

-- the bus with the changed rule in place of the old one is the bus of the set after the change
pub rule_changed : (bus rule : List ℕ) (change : Rule → Rule) (rules : RuleSet) (old : Bus) (r made : Rule) (new : Bus)
    → ((r : Rule) → (change r).name ≡ r.name) → IsFound rules bus old → IsFoundIn old rule r → IsSound rules → made ≡ change r
    → new ≡ record old { rules = placed (λ r. r.name) replacing made old.rules }
    → placed (λ b. b.name) replacing new rules.buses ≡ changed (λ b. b.name) bus (with_rule_changed rule change) rules.buses
rule_changed bus rule change rules old r made new named_so f there k same is =
    let name_of : Rule → List ℕ = λ r. r.name in
    let sorted = All_named (λ (b : Bus). AreSorted name_of b.rules) (λ b. b.name) bus rules.buses old f k.rule_order in
    let changed_rules = changed_placed name_of rule change old.rules r named_so sorted there in
    let after = is ∙ ap (λ m. record old { rules = placed name_of replacing m old.rules }) same ∙ ap (λ rs. record old { rules = rs }) (sym changed_rules) in
    found_changed rules bus old (with_rule_changed rule change) new f k (λ b. refl) after

-- A changed bus is in place of the old one, and the change is allowed: the set is sound, and is the one after the change.
pub bus_made : (control : Control) (set : RuleSet) (bus : List ℕ) (change : Bus → Bus) (old new : Bus) → ((b : Bus) → (change b).name ≡ b.name)
    → IsFound set bus old → IsSound set → new ≡ change old → IsAllowed control set → HasStored control
    → applied control set ≡ record set { buses = changed (λ b. b.name) bus change set.buses; count = set.count + 1 }
    → IsSound (record set { buses = placed (λ b. b.name) replacing new set.buses; count = set.count + 1 })
    × (record set { buses = placed (λ b. b.name) replacing new set.buses; count = set.count + 1 } ≡ applied control set)
bus_made control set bus change old new named_so found sound same allowed spelled is =
    let after = ap (λ buses. record set { buses = buses; count = set.count + 1 }) (found_changed set bus old change new found sound named_so same) ∙ sym is in
    (subst IsSound (sym after) (sound_applied control set allowed spelled sound), after)

-- The same of a changed rule in its bus.
pub rule_made : (control : Control) (set : RuleSet) (bus rule : List ℕ) (change : Rule → Rule) (old : Bus) (r made : Rule) (new : Bus)
    → ((r : Rule) → (change r).name ≡ r.name) → IsFound set bus old → IsFoundIn old rule r → IsSound set → made ≡ change r
    → new ≡ record old { rules = placed (λ r. r.name) replacing made old.rules } → IsAllowed control set → HasStored control
    → applied control set ≡ record set { buses = changed (λ b. b.name) bus (with_rule_changed rule change) set.buses; count = set.count + 1 }
    → IsSound (record set { buses = placed (λ b. b.name) replacing new set.buses; count = set.count + 1 })
    × (record set { buses = placed (λ b. b.name) replacing new set.buses; count = set.count + 1 } ≡ applied control set)
rule_made control set bus rule change old r made new named_so found there sound same put allowed spelled is =
    let after = ap (λ buses. record set { buses = buses; count = set.count + 1 })
    (rule_changed bus rule change set old r made new named_so found there sound same put) ∙ sym is in
    (subst IsSound (sym after) (sound_applied control set allowed spelled sound), after)

-- the targets of a rule are in the order of their ids
pub targets_sorted : (bus rule : List ℕ) (rules : RuleSet) (old : Bus) (r : Rule) → IsFound rules bus old → IsFoundIn old rule r → IsSound rules
    → AreSorted (λ target. target.id) r.targets
targets_sorted bus rule rules old r f there k =
    let InOrder : Rule → Type 0 = λ r. AreSorted (λ target. target.id) r.targets in
    All_named InOrder (λ r. r.name) rule old.rules r there (All_named (λ (b : Bus). All InOrder b.rules) (λ b. b.name) bus rules.buses old f k.target_order)

-- the rules of a bus have the ARNs that name them and the bus
pub arns_of : (bus : List ℕ) (rules : RuleSet) (old : Bus) → IsFound rules bus old → IsSound rules → All (HasItsArn old.name) old.rules
arns_of bus rules old f k = All_named (λ (b : Bus). All (HasItsArn b.name) b.rules) (λ b. b.name) bus rules.buses old f k.arns

-- a rule that gets a pattern and a state is the new rule with the old one's targets
pub pattern_put : (bus name pattern : List ℕ) (enabled : Bool) (rules : List Rule) (old : Rule) → named (λ rule. rule.name) name rules ≡ Some old
    → All (HasItsArn bus) rules → record old { pattern = pattern; enabled = enabled } ≡ keeping_targets old (new_rule bus name pattern enabled)
pattern_put bus name pattern enabled rules old there arns =
    let name_of : Rule → List ℕ = λ rule. rule.name in
    let same : old.name ≡ name = named_name name_of name rules old there in
    let arn : old.arn ≡ rule_arn bus name = All_named (HasItsArn bus) name_of name rules old there arns ∙ ap (rule_arn bus) same in
    ap (λ a. record old { arn = a; pattern = pattern; enabled = enabled }) arn
    ∙ ap (λ n. record old { arn = rule_arn bus name; name = n; pattern = pattern; enabled = enabled }) same
