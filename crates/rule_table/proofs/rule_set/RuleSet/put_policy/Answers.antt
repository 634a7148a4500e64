use Rattle.std.proofs.Common.{◌≡◌, true, is_some, refl, ap, ◌∙◌}
use Rattle.rule_table.specs.Control.{policy_put}
use Rattle.rule_table.specs.RuleSet.{Bus, has_bus}
use Rattle.rule_table.specs.Refusal.{IsAllowed}
use Rattle.rule_table.proofs.ChangeLemmas.{bus_made}
use Rattle.rule_table.proofs.rule_set.RuleSet.put_policy.Goals as goal

pub with_bus-requires-clause-sound : goal.with_bus-requires-clause-sound
with_bus-requires-clause-sound c =
    let bus = c.args.bus.now in
    let policy = c.args.policy.now in
    let set = c.args.self.now in
    let old = c.in_ok-old.old.now in
    let change : Bus → Bus = λ b. record b { policy = policy } in
    let short = rw c.in-Some.is at c.in_ok-policy.ensures in
    let there : has_bus bus set ≡ true = ap is_some c.in_ok-old.ensures.found in
    let allowed : IsAllowed (policy_put bus policy) set = rw (there, short.1) refl in
    let made : c.in_ok-new.new ≡ change old = c.in_ok-new.ensures ∙ ap (λ p. record old { policy = p }) short.0 in
    (bus_made (policy_put bus policy) set bus change old c.in_ok-new.new (λ b. refl) c.in_ok-old.ensures.found c.in_ok-old.ensures.sound made allowed short.2 refl).0

pub returns : goal.returns
returns c =
    let bus = c.args.bus.now in
    let policy = c.args.policy.now in
    let set = c.args.self.now in
    let old = c.in_ok-old.old.now in
    let change : Bus → Bus = λ b. record b { policy = policy } in
    let short = rw c.in-Some.is at c.in_ok-policy.ensures in
    let there : has_bus bus set ≡ true = ap is_some c.in_ok-old.ensures.found in
    let allowed : IsAllowed (policy_put bus policy) set = rw (there, short.1) refl in
    let made : c.in_ok-new.new ≡ change old = c.in_ok-new.ensures ∙ ap (λ p. record old { policy = p }) short.0 in
    let after = bus_made (policy_put bus policy) set bus change old c.in_ok-new.new (λ b. refl) c.in_ok-old.ensures.found c.in_ok-old.ensures.sound made allowed
    short.2 refl in
    (allowed, c.in_ok-with_bus.ensures ∙ after.1)
