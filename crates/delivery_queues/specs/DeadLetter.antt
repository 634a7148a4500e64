-- The six texts of a dead letter. This project's own rules, in the form of the attributes of a dead letter in the Amazon EventBridge User
-- Guide.
use Rattle.std.specs.Prelude.{ℕ, List, [], ◌++◌, Option, Some, None, codes, decimal}
use Rattle.delivery_queues.specs.declared.failure.Cause.{Cause}
use Rattle.delivery_queues.specs.declared.failure.Cause.TheVariants.{Answered, Unanswered, NotAttempted, TextTooLong, QueueMissing}
use Rattle.delivery_queues.specs.declared.failure.RetryLimit.{RetryLimit}
use Rattle.delivery_queues.specs.declared.failure.RetryLimit.TheVariants.{MaximumAttempts, MaximumAge}
use Rattle.delivery_queues.specs.declared.stored.DeadLetter.{DeadLetter}
use Rattle.delivery_queues.specs.declared.stored.StoredMessage.{StoredMessage}
use Rattle.delivery_queues.specs.declared.message.DeadLetterAttributes.{DeadLetterAttributes}
use Rattle.delivery_queues.specs.declared.message.QueueMessage.{QueueMessage}

-- `ERROR_CODE` of a dead letter: `STATUS_404` and the like, `NO_ANSWER`, `NO_ATTEMPT`, `TEXT_TOO_LONG` or `QUEUE_NOT_FOUND`.
-- Shown by: tables delivery_duties.rows: dead_letters; table_tests test_delivery_duties.rt: each_delivery_ends_in_time.
abbrev pub error_code : Cause → List ℕ
error_code (Answered code) = codes "STATUS_" ++ decimal code
error_code Unanswered = codes "NO_ANSWER"
error_code NotAttempted = codes "NO_ATTEMPT"
error_code TextTooLong = codes "TEXT_TOO_LONG"
error_code QueueMissing = codes "QUEUE_NOT_FOUND"

-- `ERROR_MESSAGE` of a dead letter: one sentence for each cause, as `Target answered 404.`
-- Shown by: tables delivery_duties.rows: dead_letters; table_tests test_delivery_duties.rt: each_delivery_ends_in_time.
abbrev pub error_message : Cause → List ℕ
error_message (Answered code) = codes "Target answered " ++ (decimal code ++ codes ".")
error_message Unanswered = codes "Target gave no answer."
error_message NotAttempted = codes "No attempt was made."
error_message TextTooLong = codes "The text is over 1048576 bytes."
error_message QueueMissing = codes "The queue does not exist."

-- `EXHAUSTED_RETRY_CONDITION` of a dead letter: `MaximumRetryAttempts`, `MaximumEventAgeInSeconds`, or empty if no limit ended the duty.
-- Shown by: table_tests test_delivery_duties.rt: each_delivery_ends_in_time.
abbrev pub exhausted_retry_condition : Option RetryLimit → List ℕ
exhausted_retry_condition None = []
exhausted_retry_condition (Some MaximumAttempts) = codes "MaximumRetryAttempts"
exhausted_retry_condition (Some MaximumAge) = codes "MaximumEventAgeInSeconds"

-- The six texts of a dead letter: the ARNs of its rule and target, its error code and error message, the exhausted condition, and the
-- number of retries.
-- Shown by: tables delivery_duties.rows: dead_letters; table_tests test_delivery_duties.rt: each_delivery_ends_in_time.
abbrev pub attributes_of : DeadLetter → DeadLetterAttributes
attributes_of d = record {
  rule_arn = d.target.rule_arn;
  target_arn = d.target.endpoint;
  error_code = error_code d.failure.cause;
  error_message = error_message d.failure.cause;
  exhausted_retry_condition = exhausted_retry_condition d.failure.exhausted;
  retry_attempts = decimal d.failure.retries;
}

-- a delivered text has no attributes
abbrev pub attributes_in : Option DeadLetter → Option DeadLetterAttributes
attributes_in None = None
attributes_in (Some d) = Some (attributes_of d)

-- A message as a peek returns it: its number, its text, and the attributes of a dead letter.
-- Shown by: tables delivery_duties.rows: dead_letters; table_tests test_delivery_duties.rt: each_delivery_ends_in_time.
abbrev pub shown : StoredMessage → QueueMessage
shown m = record { number = m.number; body = m.body; attributes = attributes_in m.dead }
