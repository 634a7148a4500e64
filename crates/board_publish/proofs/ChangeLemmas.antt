-- What a change of the rule set does to the patterns of its enabled rules: `enabled_as_before`, `put_others`, `deleted_others`, `state_others`,
-- `created_none`, `deleted_none`, `bus_others`. The automata after it: `changed_twice`, `changed_board`, `gone_board`.
use Rattle.std.proofs.Common.{◌≡◌, ℕ, ◌⊎◌, Bool, List, [], Option, Some, None, inl, inr, refl, sym, ap, ◌∙◌, subst}
use Rattle.name_rows.specs.Rows.{named, without}
use Rattle.rule_targets.specs.declared.target.Target.{Target}
use Rattle.rule_table.specs.Altered.{changed_bus}
use Rattle.rule_table.specs.Control.{Control, bus_created, bus_deleted, rule_put, rule_deleted, state_put, targets_put, targets_removed, policy_put}
use Rattle.rule_table.specs.RuleSet.{Rule, Bus, RuleSet, applied, changed, keeping_targets, new_rule, put_rule, put_targets, rules_in, with_rule_changed}
use Rattle.rule_table.specs.RuleSet.{without_rule, without_targets}
use Rattle.rule_table.proofs.LawLemmas.{other_stays}
use Rattle.rule_table.proofs.RowLemmas.{after_changed, named_changed, named_put, named_put_same, named_without}
use Rattle.board_publish.specs.MatcherView.{Matcher}
use Rattle.board_publish.specs.Matchers.{AreMatchersOf, Changes, IsKnown, enabled_at, enabled_in, matcher_of}
use Rattle.board_publish.proofs.EnteredLemmas.{by_name, named_gone}

abbrev bus_name : Bus → List ℕ
bus_name bus = bus.name

abbrev rule_name : Rule → List ℕ
rule_name rule = rule.name

abbrev enabled_of : List ℕ → Option Bus → Option (List ℕ)
enabled_of name o = enabled_in (named rule_name name (rules_in o))

-- the enabled rules of a bus whose rules are changed, if the change keeps the one of this name
after_bus : (bus other name : List ℕ) (change : Bus → Bus) (buses : List Bus) → ((b : Bus) → (change b).name ≡ b.name)
    → ((b : Bus) → enabled_in (named rule_name name (change b).rules) ≡ enabled_in (named rule_name name b.rules))
    → enabled_of name (named bus_name other (changed bus_name bus change buses)) ≡ enabled_of name (named bus_name other buses)
after_bus bus other name change buses keeps same =
    after_changed bus_name bus other change buses keeps (λ o. enabled_of name o ≡ enabled_of name (named bus_name other buses)) refl
    (λ b alike is. same b ∙ ap (enabled_of name) (sym is))

pub put_others : (bus rule pattern : List ℕ) (enabled : Bool) (set : RuleSet) (other name : List ℕ) → ¬ (rule ≡ name)
    → enabled_at other name (applied (rule_put bus rule pattern enabled) set) ≡ enabled_at other name set
put_others bus rule pattern enabled set other name apart =
    let new : Rule = new_rule bus rule pattern enabled in
    after_bus bus other name (λ b. record b { rules = put_rule new b.rules }) set.buses (λ b. refl)
    (λ b. ap enabled_in (named_put rule_name keeping_targets new name b.rules (λ old. refl) apart))

pub deleted_others : (bus rule : List ℕ) (set : RuleSet) (other name : List ℕ) → ¬ (rule ≡ name)
    → enabled_at other name (applied (rule_deleted bus rule) set) ≡ enabled_at other name set
deleted_others bus rule set other name apart =
    after_bus bus other name (λ b. record b { rules = without_rule rule b.rules }) set.buses (λ b. refl)
    (λ b. ap enabled_in (named_without rule_name rule name b.rules apart))

pub state_others : (bus rule : List ℕ) (enabled : Bool) (set : RuleSet) (other name : List ℕ) → ¬ (rule ≡ name)
    → enabled_at other name (applied (state_put bus rule enabled) set) ≡ enabled_at other name set
state_others bus rule enabled set other name apart =
    after_bus bus other name (with_rule_changed rule (λ r. record r { enabled = enabled })) set.buses (λ b. refl)
    (λ b. ap enabled_in (named_changed rule_name rule name (λ r. record r { enabled = enabled }) b.rules (λ r. refl) apart))

-- a rule that keeps its pattern and its state
after_rule : (rule name : List ℕ) (change : Rule → Rule) (rules : List Rule) → ((r : Rule) → (change r).name ≡ r.name)
    → ((r : Rule) → enabled_in (Some (change r)) ≡ enabled_in (Some r))
    → enabled_in (named rule_name name (changed rule_name rule change rules)) ≡ enabled_in (named rule_name name rules)
after_rule rule name change rules keeps same =
    after_changed rule_name rule name change rules keeps (λ o. enabled_in o ≡ enabled_in (named rule_name name rules)) refl
    (λ r alike is. same r ∙ ap enabled_in (sym is))

pub targets_same : (bus rule : List ℕ) (targets : List Target) (set : RuleSet) (other name : List ℕ)
    → enabled_at other name (applied (targets_put bus rule targets) set) ≡ enabled_at other name set
targets_same bus rule targets set other name =
    after_bus bus other name (with_rule_changed rule (λ r. record r { targets = put_targets targets r.targets })) set.buses (λ b. refl)
    (λ b. after_rule rule name (λ r. record r { targets = put_targets targets r.targets }) b.rules (λ r. refl) (λ r. refl))

pub removed_same : (bus rule : List ℕ) (ids : List (List ℕ)) (set : RuleSet) (other name : List ℕ)
    → enabled_at other name (applied (targets_removed bus rule ids) set) ≡ enabled_at other name set
removed_same bus rule ids set other name =
    after_bus bus other name (with_rule_changed rule (λ r. record r { targets = without_targets ids r.targets })) set.buses (λ b. refl)
    (λ b. after_rule rule name (λ r. record r { targets = without_targets ids r.targets }) b.rules (λ r. refl) (λ r. refl))

pub policy_same : (bus : List ℕ) (policy : Option (List ℕ)) (set : RuleSet) (other name : List ℕ)
    → enabled_at other name (applied (policy_put bus policy) set) ≡ enabled_at other name set
policy_same bus policy set other name =
    after_bus bus other name (λ b. record b { policy = policy }) set.buses (λ b. refl) (λ b. refl)

-- another bus than the changed one
pub bus_others : (control : Control) (set : RuleSet) (bus other name : List ℕ) → changed_bus control ≡ Some bus → ¬ (bus ≡ other)
    → enabled_at other name (applied control set) ≡ enabled_at other name set
bus_others control set bus other name is apart =
    ap (enabled_of name) (other_stays control set other (λ e. let same : Some bus ≡ Some other = sym is ∙ e in apart (some_names bus other same)))
  where
    some_names : (a b : List ℕ) → Some a ≡ Some b → a ≡ b
    some_names a b same = cc

-- a change of one rule
pub rule_others : (control : Control) (set : RuleSet) (bus rule : List ℕ) → changed_bus control ≡ Some bus
    → ((other name : List ℕ) → ¬ (rule ≡ name) → enabled_at other name (applied control set) ≡ enabled_at other name set)
    → (other name : List ℕ) → (¬ (bus ≡ other)) ⊎ (¬ (rule ≡ name)) → enabled_at other name (applied control set) ≡ enabled_at other name set
rule_others control set bus rule is same other name (inl apart) = bus_others control set bus other name is apart
rule_others control set bus rule is same other name (inr apart) = same other name apart

pub created_none : (bus : List ℕ) (set : RuleSet) (name : List ℕ) → enabled_at bus name (applied (bus_created bus) set) ≡ None
created_none bus set name =
    let new : Bus = record { name = bus; policy = None; rules = [] } in
    ap (enabled_of name) (named_put_same bus_name new set.buses)

pub deleted_none : (bus : List ℕ) (set : RuleSet) (name : List ℕ) → enabled_at bus name (applied (bus_deleted bus) set) ≡ None
deleted_none bus set name = ap (enabled_of name) (named_gone bus_name bus set.buses)

-- ---- the automata

pub changed_twice : (a b c : List Matcher) (bus name : List ℕ) (first pattern : Option (List ℕ)) → Changes a b bus name first → Changes b c bus name pattern
    → Changes a c bus name pattern
changed_twice a b c bus name first pattern p q = record {
  this = q.this;
  others = λ other one wanted apart h. q.others other one wanted apart (p.others other one wanted apart h);
}

pub changed_board : (old new : List Matcher) (bus name : List ℕ) (before set : RuleSet) → AreMatchersOf before old
    → ((other one : List ℕ) → (¬ (bus ≡ other)) ⊎ (¬ (name ≡ one)) → enabled_at other one set ≡ enabled_at other one before)
    → Changes old new bus name (enabled_at bus name set) → AreMatchersOf set new
changed_board old new bus name before set are same changes other one =
    by_name bus other
    (λ alike. by_name name one
    (λ too. subst (λ b. IsKnown (enabled_at b one set) one (matcher_of b new)) alike
    (subst (λ n. IsKnown (enabled_at bus n set) n (matcher_of bus new)) too changes.this))
    (λ apart. kept (inr apart)))
    (λ apart. kept (inl apart))
  where
    kept : (¬ (bus ≡ other)) ⊎ (¬ (name ≡ one)) → IsKnown (enabled_at other one set) one (matcher_of other new)
    kept apart =
        changes.others other one (enabled_at other one set) apart
        (subst (λ o. IsKnown o one (matcher_of other old)) (sym (same other one apart)) (are other one))

abbrev without_matcher : List ℕ → List Matcher → List Matcher
without_matcher bus old = without (λ (m : Matcher). m.bus) bus old

pub gone_board : (old : List Matcher) (bus : List ℕ) (before set : RuleSet) → AreMatchersOf before old
    → ((name : List ℕ) → enabled_at bus name set ≡ None)
    → ((other name : List ℕ) → ¬ (bus ≡ other) → enabled_at other name set ≡ enabled_at other name before)
    → AreMatchersOf set (without_matcher bus old)
gone_board old bus before set are none same other name =
    by_name bus other
    (λ alike. subst (λ b. IsKnown (enabled_at b name set) name (matcher_of b (without_matcher bus old))) alike
    (subst (λ o. IsKnown (enabled_at bus name set) name o) (sym (named_gone (λ (m : Matcher). m.bus) bus old)) (none name)))
    (λ apart. subst (λ o. IsKnown (enabled_at other name set) name o) (sym (named_without (λ (m : Matcher). m.bus) bus other old apart))
    (subst (λ o. IsKnown o name (matcher_of other old)) (sym (same other name apart)) (are other name)))
