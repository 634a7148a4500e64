use Rattle.std.proofs.Common.{◌≡◌, false, Some, None, refl, sym, ap, ◌∙◌}
use Rattle.std.specs.Option.{option_and_then}
use Rattle.event_shape.specs.Names.{queue_in}
use Rattle.rule_targets.specs.Checks.{member_fault, has_two_inputs}
use Rattle.rule_table.specs.declared.control.TargetFault.TheVariants as fault
use Rattle.rule_table.specs.Refusal.{missing_in}
use Rattle.rule_table.proofs.AllowedLemmas.{own_member, own_inputs, own_queues}
use Rattle.rule_table.proofs.rule_set.RuleSet.own_fault.Goals as goal

pub returns-in-Some : goal.returns-in-Some
returns-in-Some c = sym (own_member c.args.self.now c.args.target.now c.in-Some.member (sym c.in_ok-member.ensures ∙ c.in-Some.is))

pub returns-then-has_two_inputs : goal.returns-then-has_two_inputs
returns-then-has_two_inputs c =
    let set = c.args.self.now in
    let target = c.args.target.now in
    let none : member_fault target ≡ None = sym c.in_ok-member.ensures ∙ c.in_default.is in
    sym (own_inputs set target none (sym c.has_two_inputs.ensures ∙ c.if-has_two_inputs.true))

pub returns-in-Some-missing : goal.returns-in-Some-missing
returns-in-Some-missing c =
    let set = c.args.self.now in
    let target = c.args.target.now in
    let none : member_fault target ≡ None = sym c.in_ok-member.ensures ∙ c.in_default.is in
    let one : has_two_inputs target ≡ false = sym c.has_two_inputs.ensures ∙ c.if-has_two_inputs.false in
    let own : missing_in set (queue_in target.arn) ≡ Some c.in-Some-missing.queue.now =
    ap (λ t. missing_in set (queue_in t)) (sym c.as_str.ensures) ∙ sym c.in-Some-missing.ensures in
    ap (λ q. Some (fault.NoQueue q)) c.in_ok-from_str.ensures ∙ sym (own_queues set target _ _ none one own refl)

pub returns-in-Some-missing_dead_letter : goal.returns-in-Some-missing_dead_letter
returns-in-Some-missing_dead_letter c =
    let set = c.args.self.now in
    let target = c.args.target.now in
    let none : member_fault target ≡ None = sym c.in_ok-member.ensures ∙ c.in_default.is in
    let one : has_two_inputs target ≡ false = sym c.has_two_inputs.ensures ∙ c.if-has_two_inputs.false in
    let own : missing_in set (queue_in target.arn) ≡ None = ap (λ t. missing_in set (queue_in t)) (sym c.as_str.ensures) ∙ sym c.in_default-missing.ensures in
    let dead : missing_in set (option_and_then queue_in target.dead_letter) ≡ Some c.in-Some-missing_dead_letter.queue.now =
    sym c.in-Some-missing_dead_letter.ensures in
    ap (λ q. Some (fault.NoDeadLetterQueue q)) c.in_ok-from_str-2.ensures ∙ sym (own_queues set target _ _ none one own dead)

pub returns : goal.returns
returns c =
    let set = c.args.self.now in
    let target = c.args.target.now in
    let none : member_fault target ≡ None = sym c.in_ok-member.ensures ∙ c.in_default.is in
    let one : has_two_inputs target ≡ false = sym c.has_two_inputs.ensures ∙ c.if-has_two_inputs.false in
    let own : missing_in set (queue_in target.arn) ≡ None = ap (λ t. missing_in set (queue_in t)) (sym c.as_str.ensures) ∙ sym c.in_default-missing.ensures in
    let dead : missing_in set (option_and_then queue_in target.dead_letter) ≡ None = sym c.in_default-missing_dead_letter.ensures in
    sym (own_queues set target None None none one own dead)
