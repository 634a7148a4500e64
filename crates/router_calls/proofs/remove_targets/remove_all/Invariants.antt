use Rattle.std.proofs.Common.{◌≡◌, ◌++◌, drop, map}
use Rattle.json_text.specs.View.{trees_of}
use Rattle.rule_table.specs.Target.{target_of}
use Rattle.call_replies.specs.Replies.{target_report}
use Rattle.router_calls.specs.Removals.{removed_ids, failed_ids}
use Rattle.router_calls.proofs.remove_targets.remove_all.Given as goal

-- what the ids became so far, and what those that are left become
abbrev pub invariant-loop-id : goal.invariant-loop-id
invariant-loop-id l =
    (l.removed.items ++ removed_ids (drop l.id-index l.ids) l.left.items ≡ removed_ids l.ids (map target_of l.fn.targets))
    × (trees_of l.reports.items ++ map target_report (failed_ids (drop l.id-index l.ids) l.left.items)
    ≡ map target_report (failed_ids l.ids (map target_of l.fn.targets)))
