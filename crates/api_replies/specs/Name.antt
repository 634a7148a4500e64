-- The words of refusals: kinds of things, and members of requests.
use Rattle.std.specs.Prelude.{ℕ, List, codes}
use Rattle.api_replies.specs.declared.kind.Kind.{Kind}
use Rattle.api_replies.specs.declared.kind.Kind.TheVariants as kind
use Rattle.api_replies.specs.declared.member.Member.{Member}
use Rattle.api_replies.specs.declared.member.Member.TheVariants as member

-- The word of a kind of things, as a message begins with it (this project's own): `Event bus`, `Rule`, `Target`, `Archive`, `Replay`,
-- `Queue`.
-- Shown by: tables api_replies.rows: each_refusal_has_its_status_and_its_text.
abbrev pub kind_word : Kind → List ℕ
kind_word kind.EventBus = codes "Event bus"
kind_word kind.Rule = codes "Rule"
kind_word kind.Target = codes "Target"
kind_word kind.Archive = codes "Archive"
kind_word kind.Replay = codes "Replay"
kind_word kind.Queue = codes "Queue"

-- How many there may be: 100 event buses, 300 rules of a bus, 5 targets of a rule, 100 archives and 10 replays that run, which are
-- EventBridge quotas, and 1,000 queues (this project's own limit).
-- Shown by: tables api_replies.rows: each_kind_has_its_limit; most-buses; .ci/checks/mixed.sh.
abbrev pub kind_limit : Kind → ℕ
kind_limit kind.EventBus = 100
kind_limit kind.Rule = 300
kind_limit kind.Target = 5
kind_limit kind.Archive = 100
kind_limit kind.Replay = 10
kind_limit kind.Queue = 1000

-- The name of a member, as requests spell it, or of the header field `x-caller-account`.
-- Shown by: tables api_replies.rows: each_refusal_has_its_status_and_its_text, each_refused_caller_has_its_type_and_message.
abbrev pub member_name : Member → List ℕ
member_name member.Action = codes "Action"
member_name member.ArchiveName = codes "ArchiveName"
member_name member.Arn = codes "Arn"
member_name member.Budget = codes "Budget"
member_name member.CallerAccount = codes "x-caller-account"
member_name member.Condition = codes "Condition"
member_name member.DeadLetterConfig = codes "DeadLetterConfig"
member_name member.Destination = codes "Destination"
member_name member.Detail = codes "Detail"
member_name member.DetailType = codes "DetailType"
member_name member.Entries = codes "Entries"
member_name member.Event = codes "Event"
member_name member.EventBusName = codes "EventBusName"
member_name member.EventEndTime = codes "EventEndTime"
member_name member.EventPattern = codes "EventPattern"
member_name member.EventSourceArn = codes "EventSourceArn"
member_name member.EventStartTime = codes "EventStartTime"
member_name member.Id = codes "Id"
member_name member.Ids = codes "Ids"
member_name member.Input = codes "Input"
member_name member.InputPath = codes "InputPath"
member_name member.InputTransformer = codes "InputTransformer"
member_name member.Limit = codes "Limit"
member_name member.Name = codes "Name"
member_name member.NamePrefix = codes "NamePrefix"
member_name member.Policy = codes "Policy"
member_name member.Principal = codes "Principal"
member_name member.QueueName = codes "QueueName"
member_name member.RemoveAllPermissions = codes "RemoveAllPermissions"
member_name member.ReplayName = codes "ReplayName"
member_name member.Resources = codes "Resources"
member_name member.RetentionDays = codes "RetentionDays"
member_name member.RetryPolicy = codes "RetryPolicy"
member_name member.Rule = codes "Rule"
member_name member.ScheduleExpression = codes "ScheduleExpression"
member_name member.Source = codes "Source"
member_name member.State = codes "State"
member_name member.StatementId = codes "StatementId"
member_name member.TargetArn = codes "TargetArn"
member_name member.Targets = codes "Targets"
member_name member.Through = codes "Through"
member_name member.Time = codes "Time"
