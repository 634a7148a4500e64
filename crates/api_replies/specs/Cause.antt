-- Why a request, an entry of a PutEvents or a target of a PutTargets is refused, and what reports it. Types are those of the Amazon
-- EventBridge API Reference where it has one for the cause; messages and the use of each type are this project's own.
use Rattle.std.specs.Prelude.{ℕ, List, [], ◌∷◌, ◌++◌, codes, decimal}
use Rattle.json_text.specs.Tree.{Tree, text}
use Rattle.api_replies.specs.Name.{kind_word, kind_limit, member_name}
use Rattle.api_replies.specs.declared.cause.Cause.{Cause}
use Rattle.api_replies.specs.declared.cause.Cause.TheVariants as cause

-- The type of the error that reports a cause: `__type` of a refusal, `ErrorCode` of a failed entry or target.
-- Shown by: tables api_replies.rows: each_refusal_has_its_status_and_its_text, each_refused_deletion_has_its_type_and_message.
abbrev pub type_of : Cause → List ℕ
type_of cause.UnknownOperation = codes "UnknownOperationException"
type_of cause.NoObject = codes "SerializationException"
type_of (cause.Required member) = codes "ValidationException"
type_of (cause.NotValid member) = codes "ValidationException"
type_of (cause.NotAPattern why path) = codes "InvalidEventPatternException"
type_of cause.TooLargeTogether = codes "ValidationException"
type_of (cause.NotFound kind name) = codes "ResourceNotFoundException"
type_of (cause.Exists kind name) = codes "ResourceAlreadyExistsException"
type_of (cause.LimitReached kind) = codes "LimitExceededException"
type_of (cause.InUse kind name) = codes "ValidationException"
type_of (cause.HasTargets name) = codes "ValidationException"
type_of cause.DefaultBusStays = codes "ValidationException"
type_of cause.MoreThanOneInput = codes "ValidationException"
type_of cause.OtherDestination = codes "ValidationException"
type_of cause.EmptyRange = codes "ValidationException"
type_of (cause.NotRunning name) = codes "IllegalStatusException"
type_of (cause.NoStatement sid) = codes "ResourceNotFoundException"
type_of (cause.StatementExists sid) = codes "ResourceAlreadyExistsException"
type_of cause.OwnerOnly = codes "AccessDeniedException"
type_of (cause.NotAPolicy why place) = codes "ValidationException"
type_of cause.PolicyTooLong = codes "PolicyLengthExceededException"
type_of cause.NumberLimit = codes "LimitExceededException"
type_of (cause.Parameter member) = codes "InvalidArgument"
type_of cause.MalformedDetail = codes "MalformedDetail"
type_of cause.NotAuthorized = codes "NotAuthorizedForSourceException"
type_of (cause.DeniedBy statement) = codes "AccessDeniedException"
type_of cause.NotAllowed = codes "AccessDeniedException"

-- The message that reports a cause: `message` of a refusal, `ErrorMessage` of a failed entry or target.
-- Shown by: tables api_replies.rows: each_refusal_has_its_status_and_its_text, each_refused_change_of_a_policy_has_its_type_and_message.
abbrev pub message_of : Cause → List ℕ
message_of cause.UnknownOperation = codes "Unknown operation."
message_of cause.NoObject = codes "The body is not a JSON object."
message_of (cause.Required member) = codes "Member " ++ (member_name member ++ codes " is required.")
message_of (cause.NotValid member) = codes "Member " ++ (member_name member ++ codes " is not valid.")
message_of (cause.NotAPattern why path) = codes "Event pattern is not valid. Reason: " ++ (why ++ (codes " at " ++ path))
message_of cause.TooLargeTogether = codes "The request is over 262144 bytes."
message_of (cause.NotFound kind name) = kind_word kind ++ (codes " " ++ (name ++ codes " does not exist."))
message_of (cause.Exists kind name) = kind_word kind ++ (codes " " ++ (name ++ codes " already exists."))
message_of (cause.LimitReached kind) = kind_word kind ++ (codes " limit " ++ (decimal (kind_limit kind) ++ codes " reached."))
message_of (cause.InUse kind name) = kind_word kind ++ (codes " " ++ (name ++ codes " is in use."))
message_of (cause.HasTargets name) = codes "Rule " ++ (name ++ codes " has targets.")
message_of cause.DefaultBusStays = codes "The default bus stays."
message_of cause.MoreThanOneInput = codes "More than one input."
message_of cause.OtherDestination = codes "Destination is not the archive's bus."
message_of cause.EmptyRange = codes "The range is empty."
message_of (cause.NotRunning name) = codes "Replay " ++ (name ++ codes " is not running.")
message_of (cause.NoStatement sid) = codes "Statement " ++ (sid ++ codes " does not exist.")
message_of (cause.StatementExists sid) = codes "Statement " ++ (sid ++ codes " already exists.")
message_of cause.OwnerOnly = codes "Only the owner may call this."
message_of (cause.NotAPolicy why place) = codes "Policy is not valid. Reason: " ++ (why ++ (codes " at " ++ decimal place))
message_of cause.PolicyTooLong = codes "Policy is not valid. Reason: TooLong at 0"
message_of cause.NumberLimit = codes "Number limit 281474976710656 reached."
message_of (cause.Parameter member) = codes "Parameter " ++ (member_name member ++ codes " is not valid.")
message_of cause.MalformedDetail = codes "Detail is malformed."
message_of cause.NotAuthorized = codes "Not authorized for the source."
message_of (cause.DeniedBy statement) = codes "Denied by statement " ++ (statement ++ codes ".")
message_of cause.NotAllowed = codes "No statement allows it."

-- The members `ErrorCode` and `ErrorMessage` of an entry or target that failed for a cause.
-- Shown by: tables api_replies.rows: each_cause_of_a_failed_item_has_its_members.
abbrev pub failed_members : Cause → List (List ℕ × Tree)
failed_members c = (codes "ErrorCode", text (type_of c)) ∷ (codes "ErrorMessage", text (message_of c)) ∷ []
