use Rattle.std.proofs.Common.{◌≡◌, true, refl, ap, ◌∙◌}
use Rattle.api_replies.specs.declared.member.Member.TheVariants as member
use Rattle.rule_table.specs.declared.control.ControlFault.TheVariants.{Validation}
use Rattle.rule_table.specs.Control.{targets_put}
use Rattle.rule_table.specs.RuleSet.{Rule, put_targets}
use Rattle.rule_table.specs.Refusal.{are_some_put}
use Rattle.rule_table.proofs.ChangeLemmas.{rule_found, after_rule, rule_made}
use Rattle.rule_table.proofs.rule_set.RuleSet.put_targets.Goals as goal

pub with_targets-requires : goal.with_targets-requires
with_targets-requires c = let put = rw c.in-Some.is at c.in_ok-targets.ensures in put.2

pub with_bus-requires-clause-sound : goal.with_bus-requires-clause-sound
with_bus-requires-clause-sound c =
    let bus = c.args.bus.now in
    let rule = c.args.rule.now in
    let news = c.args.targets.now in
    let set = c.args.self.now in
    let old = c.in_ok-old.old.now in
    let r = c.in_ok-old.rule.now in
    let found = c.in_ok-old.ensures.found in
    let change : Rule → Rule = λ r. record r { targets = put_targets news r.targets } in
    let put = rw c.in-Some.is at c.in_ok-targets.ensures in
    let made : c.in_ok-with_targets.field-0 ≡ change r = c.in_ok-with_targets.ensures ∙ ap (λ ts. record r { targets = ts }) put.1 in
    let allowed = after_rule bus rule set r (are_some_put set news) (Validation member.Targets) true (rule_found bus rule set old r found.0 found.1) put.0 in
    (rule_made (targets_put bus rule news) set bus rule change old r c.in_ok-with_targets.field-0 c.in_ok-new.new (λ r. refl) found.0 found.1
    c.in_ok-old.ensures.sound made c.in_ok-new.ensures allowed put.3 refl).0

pub returns : goal.returns
returns c =
    let bus = c.args.bus.now in
    let rule = c.args.rule.now in
    let news = c.args.targets.now in
    let set = c.args.self.now in
    let old = c.in_ok-old.old.now in
    let r = c.in_ok-old.rule.now in
    let found = c.in_ok-old.ensures.found in
    let change : Rule → Rule = λ r. record r { targets = put_targets news r.targets } in
    let put = rw c.in-Some.is at c.in_ok-targets.ensures in
    let made : c.in_ok-with_targets.field-0 ≡ change r = c.in_ok-with_targets.ensures ∙ ap (λ ts. record r { targets = ts }) put.1 in
    let allowed = after_rule bus rule set r (are_some_put set news) (Validation member.Targets) true (rule_found bus rule set old r found.0 found.1) put.0 in
    let after = rule_made (targets_put bus rule news) set bus rule change old r c.in_ok-with_targets.field-0 c.in_ok-new.new (λ r. refl) found.0 found.1
    c.in_ok-old.ensures.sound made c.in_ok-new.ensures allowed put.3 refl in
    (allowed, c.in_ok-with_bus.ensures ∙ after.1)
