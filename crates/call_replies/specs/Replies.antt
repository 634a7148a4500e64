-- What replies show: the messages of a queue, the states of deliveries, and what failed.
use Rattle.std.specs.Prelude.{ℕ, Bool, if◌then◌else◌, List, [], ◌∷◌, length, map, take, Option, Some, None, codes, decimal}
use Rattle.json_text.specs.Tree.{Tree, truth, number, text, list, object, items_of, members_of}
use Rattle.rule_table.specs.RuleSet.{RuleSet, has_queue}
use Rattle.delivery_queues.specs.declared.message.QueueMessage.{QueueMessage}
use Rattle.delivery_queues.specs.declared.message.DeadLetterAttributes.{DeadLetterAttributes}
use Rattle.delivery_queues.specs.DeadLetter.{shown}
use Rattle.delivery_queues.specs.Queues.{messages_of}
use Rattle.delivery_duties.specs.Duties.{Duties, delivered_of, dead_lettered_of, dropped_of}
use Rattle.api_replies.specs.declared.kind.Kind.TheVariants as kind
use Rattle.api_replies.specs.declared.cause.Cause.{Cause}
use Rattle.api_replies.specs.declared.cause.Cause.TheVariants as cause
use Rattle.api_replies.specs.Cause.{failed_members}
use Rattle.api_replies.specs.Reply.{Reply, served, refused}

-- The reply that has no member.
-- Shown by: tables call_replies.rows: replies_have_their_members.
abbrev pub empty_reply : Reply
empty_reply = served []

-- A reply with the number of items that failed, and a list.
-- Shown by: tables call_replies.rows: replies_have_their_members.
abbrev pub items_reply : ℕ → List ℕ → List Tree → Reply
items_reply failed key items = served ((codes "FailedEntryCount", number (decimal failed)) ∷ (key, list (items_of items)) ∷ [])

-- The item of a target that failed: its id, and why.
-- Shown by: tables call_replies.rows: replies_have_their_members.
abbrev pub target_report : List ℕ × Cause → Tree
target_report failed = object (members_of ((codes "TargetId", text failed.0) ∷ failed_members failed.1))

-- The reply to a PutTargets or a RemoveTargets: the targets that failed.
-- Shown by: tables router_calls.rows: each_request_is_answered.
abbrev pub targets_reply : List (List ℕ × Cause) → Reply
targets_reply failed = items_reply (length failed) (codes "FailedEntries") (map target_report failed)

-- The six attributes of a dead letter, in the order of the Amazon EventBridge User Guide. A delivered text has none.
-- Shown by: tables call_replies.rows: deliveries_are_counted_and_messages_are_shown.
abbrev pub attribute_members : Option DeadLetterAttributes → List (List ℕ × Tree)
attribute_members None = []
attribute_members (Some a) =
    (codes "RULE_ARN", text a.rule_arn)
    ∷ (codes "TARGET_ARN", text a.target_arn)
    ∷ (codes "ERROR_CODE", text a.error_code)
    ∷ (codes "ERROR_MESSAGE", text a.error_message)
    ∷ (codes "EXHAUSTED_RETRY_CONDITION", text a.exhausted_retry_condition)
    ∷ (codes "RETRY_ATTEMPTS", text a.retry_attempts)
    ∷ []

-- The element of a PeekMessages reply for one queue message: `Number`, `Body` and `Attributes`.
-- Shown by: tables call_replies.rows: deliveries_are_counted_and_messages_are_shown.
abbrev pub message_report : QueueMessage → Tree
message_report m = object (members_of (
    (codes "Number", number (decimal m.number))
    ∷ (codes "Body", text m.body)
    ∷ (codes "Attributes", object (members_of (attribute_members m.attributes)))
    ∷ []))

-- The reply that shows these queue messages.
-- Shown by: tables call_replies.rows: deliveries_are_counted_and_messages_are_shown.
abbrev pub messages_reply : List QueueMessage → Reply
messages_reply messages = served ((codes "Messages", list (items_of (map message_report messages))) ∷ [])

-- The reply to a PeekMessages: the oldest queue messages of the queue, at most `limit`; a missing queue is refused.
-- Shown by: tables call_replies.rows: deliveries_are_counted_and_messages_are_shown; table_tests test_call_replies.rt:
-- a_limit_of_0_shows_no_message.
abbrev pub peeked : List ℕ → ℕ → RuleSet → Duties → Reply
peeked queue limit set duties =
    if has_queue queue set then messages_reply (map shown (take limit (messages_of queue duties.queues)))
    else refused (cause.NotFound kind.Queue queue)

-- The reply to a DeleteMessages: how many messages it deletes.
-- Shown by: tables call_replies.rows: replies_have_their_members.
abbrev pub deletion_reply : ℕ → Reply
deletion_reply count = served ((codes "Deleted", number (decimal count)) ∷ [])

-- The reply to a DutyCounts: the number of deliveries made so far, and the number in each state.
-- Shown by: the_counts_lack_the_dead_letters.edit.
abbrev pub duties_reply : Duties → Reply
duties_reply duties = served (
    (codes "Created", number (decimal duties.created))
    ∷ (codes "Pending", number (decimal (length duties.pending)))
    ∷ (codes "Delivered", number (decimal (delivered_of duties.ended)))
    ∷ (codes "DeadLettered", number (decimal (dead_lettered_of duties.ended)))
    ∷ (codes "Dropped", number (decimal (dropped_of duties.ended)))
    ∷ [])

-- The reply to a TestEventPattern: `{"Result":true}` or `{"Result":false}`.
-- Shown by: tables call_replies.rows: replies_have_their_members.
abbrev pub tested_reply : Bool → Reply
tested_reply matches = served ((codes "Result", truth matches) ∷ [])
