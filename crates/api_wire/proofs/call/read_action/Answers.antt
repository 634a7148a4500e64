use Rattle.json_text.specs.Tree.{members_of}
use Rattle.json_text.specs.View.{pairs_of}
use Rattle.api_wire.proofs.call.read_action.Goals as goal

pub returns-in-CreateEventBus : goal.returns-in-CreateEventBus
returns-in-CreateEventBus c = rw c.in-CreateEventBus.is c.create_event_bus.ensures

pub returns-in-DeleteEventBus : goal.returns-in-DeleteEventBus
returns-in-DeleteEventBus c = rw c.in-DeleteEventBus.is c.delete_event_bus.ensures

pub returns-in-DescribeEventBus : goal.returns-in-DescribeEventBus
returns-in-DescribeEventBus c = rw c.in-DescribeEventBus.is c.describe_event_bus.ensures

pub returns-in-ListEventBuses : goal.returns-in-ListEventBuses
returns-in-ListEventBuses c = rw c.in-ListEventBuses.is c.list_event_buses.ensures

pub returns-in-PutRule : goal.returns-in-PutRule
returns-in-PutRule c = rw c.in-PutRule.is c.put_rule.ensures

pub returns-in-DeleteRule : goal.returns-in-DeleteRule
returns-in-DeleteRule c = rw c.in-DeleteRule.is c.delete_rule.ensures

pub returns-in-EnableRule : goal.returns-in-EnableRule
returns-in-EnableRule c = rw c.in-EnableRule.is c.enable_rule.ensures

pub returns-in-DisableRule : goal.returns-in-DisableRule
returns-in-DisableRule c = rw c.in-DisableRule.is c.disable_rule.ensures

pub returns-in-DescribeRule : goal.returns-in-DescribeRule
returns-in-DescribeRule c = rw c.in-DescribeRule.is c.describe_rule.ensures

pub returns-in-ListRules : goal.returns-in-ListRules
returns-in-ListRules c = rw c.in-ListRules.is c.list_rules.ensures

pub returns-in-PutTargets : goal.returns-in-PutTargets
returns-in-PutTargets c = rw c.in-PutTargets.is (c.put_targets.ensures c.args.caller.now c.args.reading)

pub returns-in-RemoveTargets : goal.returns-in-RemoveTargets
returns-in-RemoveTargets c = rw c.in-RemoveTargets.is c.remove_targets.ensures

pub returns-in-ListTargetsByRule : goal.returns-in-ListTargetsByRule
returns-in-ListTargetsByRule c = rw c.in-ListTargetsByRule.is c.list_targets_by_rule.ensures

pub returns-in-ListRuleNamesByTarget : goal.returns-in-ListRuleNamesByTarget
returns-in-ListRuleNamesByTarget c = rw c.in-ListRuleNamesByTarget.is c.list_rule_names_by_target.ensures

pub returns-in-PutPermission : goal.returns-in-PutPermission
returns-in-PutPermission c = rw c.in-PutPermission.is c.put_permission.ensures

pub returns-in-RemovePermission : goal.returns-in-RemovePermission
returns-in-RemovePermission c = rw c.in-RemovePermission.is c.remove_permission.ensures

pub returns-in-TestEventPattern : goal.returns-in-TestEventPattern
returns-in-TestEventPattern c = rw c.in-TestEventPattern.is (c.test_event_pattern.ensures c.args.caller.now c.args.reading)

pub returns-in-CreateArchive : goal.returns-in-CreateArchive
returns-in-CreateArchive c = rw c.in-CreateArchive.is c.create_archive.ensures

pub returns-in-UpdateArchive : goal.returns-in-UpdateArchive
returns-in-UpdateArchive c = rw c.in-UpdateArchive.is c.update_archive.ensures

pub returns-in-DeleteArchive : goal.returns-in-DeleteArchive
returns-in-DeleteArchive c = rw c.in-DeleteArchive.is c.delete_archive.ensures

pub returns-in-DescribeArchive : goal.returns-in-DescribeArchive
returns-in-DescribeArchive c = rw c.in-DescribeArchive.is c.describe_archive.ensures

pub returns-in-ListArchives : goal.returns-in-ListArchives
returns-in-ListArchives c = rw c.in-ListArchives.is c.list_archives.ensures

pub returns-in-StartReplay : goal.returns-in-StartReplay
returns-in-StartReplay c = rw c.in-StartReplay.is (c.start_replay.ensures c.args.caller.now c.args.reading)

pub returns-in-CancelReplay : goal.returns-in-CancelReplay
returns-in-CancelReplay c = rw c.in-CancelReplay.is c.cancel_replay.ensures

pub returns-in-DescribeReplay : goal.returns-in-DescribeReplay
returns-in-DescribeReplay c = rw c.in-DescribeReplay.is c.describe_replay.ensures

pub returns-in-ListReplays : goal.returns-in-ListReplays
returns-in-ListReplays c = rw c.in-ListReplays.is c.list_replays.ensures

pub returns-in-CreateQueue : goal.returns-in-CreateQueue
returns-in-CreateQueue c = rw c.in-CreateQueue.is c.create_queue.ensures

pub returns-in-DeleteQueue : goal.returns-in-DeleteQueue
returns-in-DeleteQueue c = rw c.in-DeleteQueue.is c.delete_queue.ensures

pub returns-in-PeekMessages : goal.returns-in-PeekMessages
returns-in-PeekMessages c = rw c.in-PeekMessages.is c.peek_messages.ensures

pub returns-in-DeleteMessages : goal.returns-in-DeleteMessages
returns-in-DeleteMessages c = rw c.in-DeleteMessages.is c.delete_messages.ensures

pub returns-in-DeliverDue : goal.returns-in-DeliverDue
returns-in-DeliverDue c = rw c.in-DeliverDue.is c.deliver_due.ensures

pub returns-in-StepReplays : goal.returns-in-StepReplays
returns-in-StepReplays c = rw c.in-StepReplays.is c.step_replays.ensures

pub returns-in-DutyCounts : goal.returns-in-DutyCounts
returns-in-DutyCounts c = rw c.in-DutyCounts.is (c.duty_counts.ensures (members_of (pairs_of c.args.members.now)))
