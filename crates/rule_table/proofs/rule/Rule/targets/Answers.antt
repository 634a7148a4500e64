use Rattle.std.proofs.Common.{◌≡◌, map, ◌∙◌, subst}
use Rattle.rule_table.specs.RuleSet.{Rule}
use Rattle.rule_table.specs.Target.{stored_of, target_of}
use Rattle.rule_table.proofs.TargetLemmas.{rows_again}
use Rattle.rule_table.proofs.rule.Rule.targets.Goals as goal

pub returns-clause-rows : goal.returns-clause-rows
returns-clause-rows c =
    let rows = c.self.inside.targets.items in
    let view : Rule = record {
      arn = c.self.inside.arn;
      name = c.self.inside.name;
      pattern = c.self.inside.pattern;
      enabled = c.self.inside.enabled;
      targets = map target_of rows;
    } in
    c.as_slice.ensures.value ∙ subst (λ (r : Rule). rows ≡ map (stored_of r) r.targets) c.self.view_is (rows_again view rows c.self.invariant)
