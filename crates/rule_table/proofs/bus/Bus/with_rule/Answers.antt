use Rattle.std.proofs.Common.{◌≡◌, ◌||◌, ℕ, List, true, length, is_some, Some, None, ap, sym, ◌∙◌, subst, refl}
use Rattle.std.specs.Prelude.{nat_lt}
use Rattle.name_rows.specs.Rows.{AreSorted, named, placed, replacing}
use Rattle.rule_table.specs.RuleSet.{Rule, Bus, new_rule, keeping_targets}
use Rattle.rule_table.proofs.AllowedLemmas.{room_below}
use Rattle.rule_table.proofs.RowLemmas.{joined_placed, joined_new}
use Rattle.rule_table.proofs.ChangeLemmas.{pattern_put}
use Rattle.rule_table.proofs.bus.Bus.with_rule.Goals as goal

pub returns-in_ok-with-in-Some : goal.returns-in_ok-with-in-Some
returns-in_ok-with-in-Some c =
    let name_of : Rule → List ℕ = λ rule. rule.name in
    let bus = c.args.self.now in
    let name = c.args.name.now in
    let rules = bus.rules in
    let old = c.in-Some.old.now in
    let same : c.self.inside.rules ≡ rules = ap (λ (bus : Bus). bus.rules) c.self.view_is in
    let new : Rule = new_rule bus.name name c.args.pattern.now c.args.enabled in
    let found : named name_of name rules ≡ Some old =
    subst (λ rs. named name_of name rs ≡ Some old) same
    (subst (λ name. named name_of name c.self.inside.rules ≡ Some old) c.as_str.ensures c.in-Some.ensures.found) in
    let sorted = subst (AreSorted name_of) same c.in-Some.ensures.sorted in
    let rule : c.in_ok-rule-in-Some.rule ≡ keeping_targets old new =
    c.in_ok-rule-in-Some.ensures ∙ ap (λ p. record old { pattern = p; enabled = c.args.enabled }) c.in_ok-share-in-Some.ensures
    ∙ pattern_put bus.name name c.args.pattern.now c.args.enabled rules old found c.requires.arns in (
      ap (λ o. is_some o || nat_lt (length rules) 300) found,
      c.in_ok-with-in-Some.ensures
          ∙ ap (λ rs. record bus { rules = rs })
          (ap (λ r. placed name_of replacing r rules) rule ∙ sym (joined_placed name_of keeping_targets new rules old refl sorted found)),
    )

pub returns-in_ok-with-in-None : goal.returns-in_ok-with-in-None
returns-in_ok-with-in-None c =
    let name_of : Rule → List ℕ = λ rule. rule.name in
    let bus = c.args.self.now in
    let name = c.args.name.now in
    let rules = bus.rules in
    let same : c.self.inside.rules ≡ rules = ap (λ (bus : Bus). bus.rules) c.self.view_is in
    let new : Rule = new_rule bus.name name c.args.pattern.now c.args.enabled in
    let none : named name_of name rules ≡ None =
    subst (λ rs. named name_of name rs ≡ None) same
    (subst (λ name. named name_of name c.self.inside.rules ≡ None) c.as_str.ensures c.in-None.ensures.found) in
    let rule : c.in_ok-rule-in-None.rule ≡ new =
    c.in_ok-rule-in-None.ensures ∙ ap (λ b. new_rule b name c.in_ok-share-in-None.field-0 c.args.enabled) c.name.ensures
    ∙ ap (λ p. new_rule bus.name name p c.args.enabled) c.in_ok-share-in-None.ensures in
    let room : nat_lt (length rules) 300 ≡ true = ap (λ rs. nat_lt (length rs) 300) (sym same) ∙ room_below (length c.self.inside.rules) 300 c.if-reach.ensures.1 in (
      ap (λ o. is_some o || nat_lt (length rules) 300) none ∙ room,
      c.in_ok-with-in-None.ensures
          ∙ ap (λ rs. record bus { rules = rs })
          (ap (λ r. placed name_of replacing r rules) rule ∙ sym (joined_new name_of keeping_targets new rules none)),
    )
