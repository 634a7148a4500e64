-- Replies: a status and a JSON value. Texts and statuses of refusals are this project's own.
use Rattle.std.specs.Prelude.{ℕ, List, [], ◌∷◌, codes, decimal}
use Rattle.json_text.specs.Tree.{Tree, number, text, object, members_of}
use Rattle.api_replies.specs.Cause.{type_of, message_of}
use Rattle.api_replies.specs.declared.cause.Cause.{Cause}
use Rattle.api_replies.specs.declared.cause.Cause.TheVariants as cause

-- A reply: its HTTP status and its body.
-- Shown by: tables api_replies.rows: each_refusal_has_its_status_and_its_text.
pub record Reply : Type 0 where
  pub status : ℕ
  pub body : Tree

-- The reply to a request that was carried out: status 200, with these members.
-- Shown by: first-run.
abbrev pub served : List (List ℕ × Tree) → Reply
served members = record { status = 200; body = object (members_of members) }

-- A reply whose body has the members `__type` and `message`.
-- Shown by: tables api_replies.rows: each_refusal_has_its_status_and_its_text.
abbrev pub refusal : ℕ → List ℕ → List ℕ → Reply
refusal status kind message = record {
  status = status;
  body = object (members_of ((codes "__type", text kind) ∷ (codes "message", text message) ∷ []));
}

-- The reply to a request that is refused for a cause: 400, with the cause's type and message.
-- Shown by: tables api_replies.rows: each_refusal_has_its_status_and_its_text.
abbrev pub refused : Cause → Reply
refused c = refusal 400 (type_of c) (message_of c)

-- The number limit is reached: 400, `LimitExceededException`, `Number limit 281474976710656 reached.`
-- Shown by: table_tests test_api_replies.rt: the_number_limit_is_refused.
abbrev pub limit_reply : Reply
limit_reply = refused cause.NumberLimit

-- Out of memory: 503, `NoMemory`, `Out of memory.`
-- Shown by: table_tests test_api_replies.rt: replies_without_memory_are_written_out; .ci/checks/limits.sh.
abbrev pub no_memory : Reply
no_memory = refusal 503 (codes "NoMemory") (codes "Out of memory.")

-- The bytes do not begin with a head that the server accepts: 400, `BadHead`, `The head is not HTTP.`
-- Shown by: bad-head.
abbrev pub bad_head : Reply
bad_head = refusal 400 (codes "BadHead") (codes "The head is not HTTP.")

-- The method is not POST: 405, `NotPost`, `Only POST is served.` (RFC 9110, section 15.5.6).
-- Shown by: get-is-refused.
abbrev pub not_post : Reply
not_post = refusal 405 (codes "NotPost") (codes "Only POST is served.")

-- The head announces no length of its body: 411, `LengthRequired`, `Content-Length is required.` (RFC 9110, section 15.5.12).
-- Shown by: no-length.
abbrev pub length_required : Reply
length_required = refusal 411 (codes "LengthRequired") (codes "Content-Length is required.")

-- The body is longer than the limit: 413, `TooLarge`, `The body is over 1048576 bytes.` (RFC 9110, section 15.5.14).
-- Shown by: body-too-large.
abbrev pub too_large : Reply
too_large = refusal 413 (codes "TooLarge") (codes "The body is over 1048576 bytes.")

-- The head is longer than the limit, or has more fields: 431, `HeadTooLarge`, `The head is over 16384 bytes or 64 fields.` (RFC 6585,
-- section 5).
-- Shown by: head-too-long; too-many-fields.
abbrev pub head_too_large : Reply
head_too_large = refusal 431 (codes "HeadTooLarge") (codes "The head is over 16384 bytes or 64 fields.")

-- What one DeliverDue did: the number of deliveries attempted, delivered, dead-lettered and dropped.
-- Shown by: tables api_replies.rows: counts_are_reported_without_memory; table_tests test_api_replies.rt:
-- replies_without_memory_are_written_out.
pub record Counts : Type 0 where
  pub attempts : ℕ
  pub delivered : ℕ
  pub dead_lettered : ℕ
  pub dropped : ℕ

-- The reply to a DeliverDue with these counts.
-- Shown by: dead_letters_are_reported_as_dropped.edit.
abbrev pub counted : Counts → Reply
counted n = served (
    (codes "Attempts", number (decimal n.attempts))
    ∷ (codes "Delivered", number (decimal n.delivered))
    ∷ (codes "DeadLettered", number (decimal n.dead_lettered))
    ∷ (codes "Dropped", number (decimal n.dropped))
    ∷ [])

-- The reply to a StepReplays that made this number of steps.
-- Shown by: proofs alone.
abbrev pub stepped : ℕ → Reply
stepped steps = served ((codes "Steps", number (decimal steps)) ∷ [])
