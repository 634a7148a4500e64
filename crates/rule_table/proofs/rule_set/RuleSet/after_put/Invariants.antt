use Rattle.std.proofs.Common.{◌≡◌, drop, map, take}
use Rattle.std.specs.Prelude.{All}
use Rattle.rule_table.specs.RuleSet.{put_targets}
use Rattle.rule_table.specs.Refusal.{are_put}
use Rattle.rule_table.specs.Target.{target_of, IsStoredOf}
use Rattle.rule_table.specs.WellFormed.{HasValidInput}
use Rattle.rule_table.proofs.rule_set.RuleSet.after_put.Given as goal

abbrev pub invariant-loop-new : goal.invariant-loop-new
invariant-loop-new l = record {
  put : put_targets l.news l.rule.targets ≡ put_targets (drop l.new-index l.news) (map target_of l.others.items);
  good : are_put l.self l.news l.rule.targets ≡ are_put l.self (drop l.new-index l.news) (map target_of l.others.items);
  rows : All (IsStoredOf l.rule) l.others.items;
  valid : All HasValidInput (take l.new-index l.news);
}
