use Rattle.std.proofs.Common.{◌≡◌, [], length, map, true, refl, sym, ap, ◌∙◌}
use Rattle.std.specs.Prelude.{nat_le}
use Rattle.std.proofs.lemmas.Bool.{eqb-true}
use Rattle.std.proofs.lemmas.List.{nil_from_length}
use Rattle.rule_table.specs.declared.control.ControlFault.TheVariants.{HasTargets}
use Rattle.rule_table.specs.Control.{rule_deleted}
use Rattle.rule_table.specs.RuleSet.{Bus, without_rule}
use Rattle.rule_table.specs.Target.{target_of}
use Rattle.rule_table.proofs.ChangeLemmas.{rule_found, after_rule, bus_made}
use Rattle.rule_table.proofs.rule_set.RuleSet.delete_rule.Goals as goal

pub with_bus-requires-clause-sound : goal.with_bus-requires-clause-sound
with_bus-requires-clause-sound c =
    let bus = c.args.bus.now in
    let name = c.args.name.now in
    let set = c.args.self.now in
    let old = c.in_ok-old.old.now in
    let r = c.in_ok-old.rule.now in
    let found = c.in_ok-old.ensures.found in
    let change : Bus → Bus = λ b. record b { rules = without_rule name b.rules } in
    let none : r.targets ≡ [] =
    sym c.targets.ensures.targets ∙ ap (map target_of) (nil_from_length c.targets.result.now (eqb-true (length c.targets.result.now) 0 (sym c.if-not-is_empty.ensures))) in
    let made : c.in_ok-new.new ≡ change old = c.in_ok-new.ensures ∙ ap (λ n. record old { rules = without_rule n old.rules }) c.as_str.ensures in
    let allowed = after_rule bus name set r (λ ts. nat_le (length ts) 0) HasTargets true (rule_found bus name set old r found.0 found.1)
    (ap (λ ts. nat_le (length ts) 0) none) in
    (bus_made (rule_deleted bus name) set bus change old c.in_ok-new.new (λ b. refl) found.0 c.in_ok-old.ensures.sound made allowed tt refl).0

pub returns : goal.returns
returns c =
    let bus = c.args.bus.now in
    let name = c.args.name.now in
    let set = c.args.self.now in
    let old = c.in_ok-old.old.now in
    let r = c.in_ok-old.rule.now in
    let found = c.in_ok-old.ensures.found in
    let change : Bus → Bus = λ b. record b { rules = without_rule name b.rules } in
    let none : r.targets ≡ [] =
    sym c.targets.ensures.targets ∙ ap (map target_of) (nil_from_length c.targets.result.now (eqb-true (length c.targets.result.now) 0 (sym c.if-not-is_empty.ensures))) in
    let made : c.in_ok-new.new ≡ change old = c.in_ok-new.ensures ∙ ap (λ n. record old { rules = without_rule n old.rules }) c.as_str.ensures in
    let allowed = after_rule bus name set r (λ ts. nat_le (length ts) 0) HasTargets true (rule_found bus name set old r found.0 found.1)
    (ap (λ ts. nat_le (length ts) 0) none) in
    let after = bus_made (rule_deleted bus name) set bus change old c.in_ok-new.new (λ b. refl) found.0 c.in_ok-old.ensures.sound made allowed tt refl in
    (allowed, c.in_ok-with_bus.ensures ∙ after.1)
