use Rattle.std.proofs.Common.{◌≡◌, ◌||◌, ℕ, List, true, is_some, length, refl, ap, ◌∙◌}
use Rattle.std.specs.Prelude.{nat_lt}
use Rattle.name_rows.specs.Rows.{named}
use Rattle.rule_table.specs.Control.{rule_put}
use Rattle.rule_table.specs.RuleSet.{Rule, Bus, has_bus, has_rule, new_rule, put_rule, rules_in, rules_of}
use Rattle.rule_table.specs.Refusal.{IsAllowed}
use Rattle.rule_table.proofs.ChangeLemmas.{bus_made, arns_of}
use Rattle.rule_table.proofs.RowLemmas.{named_name}
use Rattle.rule_table.proofs.rule_set.RuleSet.put_rule.Goals as goal

pub with_rule-requires : goal.with_rule-requires
with_rule-requires c =
    record { arns = arns_of c.args.bus.now c.args.self.now c.in_ok-old.old.now c.in_ok-old.ensures.found c.in_ok-old.ensures.sound }

pub with_bus-requires-clause-sound : goal.with_bus-requires-clause-sound
with_bus-requires-clause-sound c =
    let bus = c.args.bus.now in
    let name = c.args.name.now in
    let set = c.args.self.now in
    let old = c.in_ok-old.old.now in
    let found = c.in_ok-old.ensures.found in
    let rule : List ℕ → Rule = λ b. new_rule b name c.args.pattern.now c.args.enabled in
    let change : Bus → Bus = λ b. record b { rules = put_rule (rule bus) b.rules } in
    let put = rw c.in-Some.is at c.in_ok-new.ensures in
    let there : has_bus bus set ≡ true = ap is_some found in
    let room : (has_rule bus name set || nat_lt (length (rules_of bus set)) 300) ≡ true =
    ap (λ o. is_some (named (λ (r : Rule). r.name) name (rules_in o)) || nat_lt (length (rules_in o)) 300) found ∙ put.0 in
    let allowed : IsAllowed (rule_put bus name c.args.pattern.now c.args.enabled) set = rw (there, room) refl in
    let made : c.in-Some.new ≡ change old =
    put.1 ∙ ap (λ b. record old { rules = put_rule (rule b) old.rules }) (named_name (λ (b : Bus). b.name) bus set.buses old found) in
    (bus_made (rule_put bus name c.args.pattern.now c.args.enabled) set bus change old c.in-Some.new (λ b. refl) found c.in_ok-old.ensures.sound made allowed
    tt refl).0

pub returns : goal.returns
returns c =
    let bus = c.args.bus.now in
    let name = c.args.name.now in
    let set = c.args.self.now in
    let old = c.in_ok-old.old.now in
    let found = c.in_ok-old.ensures.found in
    let rule : List ℕ → Rule = λ b. new_rule b name c.args.pattern.now c.args.enabled in
    let change : Bus → Bus = λ b. record b { rules = put_rule (rule bus) b.rules } in
    let put = rw c.in-Some.is at c.in_ok-new.ensures in
    let there : has_bus bus set ≡ true = ap is_some found in
    let room : (has_rule bus name set || nat_lt (length (rules_of bus set)) 300) ≡ true =
    ap (λ o. is_some (named (λ (r : Rule). r.name) name (rules_in o)) || nat_lt (length (rules_in o)) 300) found ∙ put.0 in
    let allowed : IsAllowed (rule_put bus name c.args.pattern.now c.args.enabled) set = rw (there, room) refl in
    let made : c.in-Some.new ≡ change old =
    put.1 ∙ ap (λ b. record old { rules = put_rule (rule b) old.rules }) (named_name (λ (b : Bus). b.name) bus set.buses old found) in
    let after = bus_made (rule_put bus name c.args.pattern.now c.args.enabled) set bus change old c.in-Some.new (λ b. refl) found c.in_ok-old.ensures.sound made
    allowed tt refl in
    (allowed, c.in_ok-with_bus.ensures ∙ after.1)
