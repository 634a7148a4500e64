use Rattle.std.proofs.Common.{◌≡◌, drop, map}
use Rattle.std.specs.Prelude.{All}
use Rattle.name_rows.specs.Rows.{AreSorted}
use Rattle.rule_table.specs.RuleSet.{without_targets}
use Rattle.rule_table.specs.Refusal.{are_removable}
use Rattle.rule_table.specs.Target.{target_of, IsStoredOf}
use Rattle.rule_table.proofs.targets.after_removal.Given as goal

abbrev pub invariant-loop-id : goal.invariant-loop-id
invariant-loop-id l = record {
  sorted : AreSorted (λ target. target.id) (map target_of l.others.items);
  removed : without_targets l.ids l.rule.targets ≡ without_targets (drop l.id-index l.ids) (map target_of l.others.items);
  removable : are_removable l.ids l.rule.targets ≡ are_removable (drop l.id-index l.ids) (map target_of l.others.items);
  rows : All (IsStoredOf l.rule) l.others.items;
}
