-- Rules whose names a journal can leave out, since their ARNs end in them.
use Rattle.std.specs.Prelude.{◌≡◌, All}
use Rattle.input_transform.specs.Names.{after_slash}
use Rattle.rule_table.specs.RuleSet.{Rule, RuleSet}

-- The name of the rule is the end of its ARN.
-- Shown by: law rows_name_their_rules.
abbrev pub IsNamedByArn : Rule → Type 0
IsNamedByArn rule = rule.name ≡ after_slash rule.arn

-- Each rule's name is the end of its ARN.
-- Shown by: law rows_name_their_rules.
abbrev pub AreNamedByArns : RuleSet → Type 0
AreNamedByArns set = All (λ bus. All IsNamedByArn bus.rules) set.buses
