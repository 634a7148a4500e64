use Rattle.std.proofs.Common.{refl, ◌∙◌}
use Rattle.rule_table.specs.Control.{state_put}
use Rattle.rule_table.specs.RuleSet.{Rule}
use Rattle.rule_table.proofs.ChangeLemmas.{rule_found, rule_passes, rule_made}
use Rattle.rule_table.proofs.rule_set.RuleSet.put_state.Goals as goal

pub with_bus-requires-clause-sound : goal.with_bus-requires-clause-sound
with_bus-requires-clause-sound c =
    let bus = c.args.bus.now in
    let name = c.args.name.now in
    let set = c.args.self.now in
    let old = c.in_ok-old.old.now in
    let r = c.in_ok-old.rule.now in
    let found = c.in_ok-old.ensures.found in
    let change : Rule → Rule = λ r. record r { enabled = c.args.enabled } in
    let allowed = rule_passes bus name set r (rule_found bus name set old r found.0 found.1) in
    (rule_made (state_put bus name c.args.enabled) set bus name change old r c.in_ok-with_state.field-0 c.in_ok-new.new (λ r. refl) found.0 found.1
    c.in_ok-old.ensures.sound c.in_ok-with_state.ensures c.in_ok-new.ensures allowed tt refl).0

pub returns : goal.returns
returns c =
    let bus = c.args.bus.now in
    let name = c.args.name.now in
    let set = c.args.self.now in
    let old = c.in_ok-old.old.now in
    let r = c.in_ok-old.rule.now in
    let found = c.in_ok-old.ensures.found in
    let change : Rule → Rule = λ r. record r { enabled = c.args.enabled } in
    let allowed = rule_passes bus name set r (rule_found bus name set old r found.0 found.1) in
    let after = rule_made (state_put bus name c.args.enabled) set bus name change old r c.in_ok-with_state.field-0 c.in_ok-new.new (λ r. refl) found.0 found.1
    c.in_ok-old.ensures.sound c.in_ok-with_state.ensures c.in_ok-new.ensures allowed tt refl in
    (allowed, c.in_ok-with_bus.ensures ∙ after.1)
