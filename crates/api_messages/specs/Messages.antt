-- Which bytes are a message, which are refused and why, and which are awaited. Heads are those of the grammar in `httparse`.
use Rattle.std.specs.Prelude.{◌≡◌, ℕ, ◌<◌, ◌≤◌, ◌⊎◌, List, [], ◌∷◌, ◌++◌, length, take, Ok, Err}
use Rattle.httparse.specs.Grammar.{RequestHead, print_request, ReadsRequest, HasNoRequest, NeverHasRequest, MayBecomeRequest}
use Rattle.api_messages.specs.declared.message.Message.{Message}
use Rattle.api_messages.specs.declared.message.Refusal.{Refusal}
use Rattle.api_messages.specs.declared.message.Refusal.TheVariants.{BadHead, HeadTooLarge}
use Rattle.api_messages.specs.Fields.{method_of, pairs_of, known_of, text_at, body_length, asks_to_close}
use Rattle.api_messages.specs.Lines.{Begins65th}

-- A head of at most 16,384 bytes with the empty lines before it (RFC 9112, section 2.2), and at most 64 fields. Both limits are this
-- project's own.
-- Shown by: tables api_messages.rows: a_head_ends_within_16384_bytes.
pub record IsSmall (h : RequestHead) : Type 0 where
  pub short : length (print_request h) ≤ 16384
  pub few : length h.fields ≤ 64

-- A head within these limits that no rule refuses, with the length of its body.
-- Shown by: tables api_messages.rows: a_head_ends_within_16384_bytes.
pub record IsServed (h : RequestHead) (body_len : ℕ) : Type 0 where
  pub small : IsSmall h
  pub announces : body_length h ≡ Ok body_len

-- The bytes are one message: a served head, and a body as long as the head announces (RFC 9112, sections 2.1 and 6.2).
-- Shown by: tables api_messages.rows: a_message_cut_anywhere_is_the_same_message.
pub record IsMessage (bytes : List ℕ) (m : Message) : Type 0 where
  pub head : RequestHead
  pub reads : ReadsRequest bytes head m.body
  pub served : IsServed head (length m.body)
  pub method : m.method ≡ method_of head.method
  pub target : m.target ≡ text_at (known_of (pairs_of head)).target
  pub caller : m.caller ≡ text_at (known_of (pairs_of head)).caller
  pub close : m.close ≡ asks_to_close head

-- The first 16,384 bytes, within which a head has to end.
-- Shown by: tables api_messages.rows: a_head_ends_within_16384_bytes.
abbrev pub first_bytes : List ℕ → List ℕ
first_bytes bytes = take 16384 bytes

-- No message begins with these bytes, and why. `HeadTooLarge`: their first 16,384 show a 65th field, or are only a part of a head.
-- `BadHead`: nothing continues the first 16,384 to a head, and they show no 65th field. Any reason of `body_length`: a whole head within
-- the limits breaks a rule.
-- Shown by: tables api_messages.rows: heads_that_break_a_rule_are_refused_from_their_last_byte_on.
pub data IsRefused (bytes : List ℕ) (why : Refusal) : Type 0 where
  -- nothing continues them to a head (RFC 9112, sections 2 to 5), and they do not show a 65th field
  never : why ≡ BadHead → NeverHasRequest (first_bytes bytes) → ¬ (Begins65th (first_bytes bytes)) → IsRefused bytes why
  -- they show a 65th field, whatever comes after its first byte
  many : why ≡ HeadTooLarge → Begins65th (first_bytes bytes) → IsRefused bytes why
  -- they are at least 16,384 bytes, and the first 16,384 are only a part of a head
  long : why ≡ HeadTooLarge → 16384 ≤ length bytes → HasNoRequest (first_bytes bytes) → MayBecomeRequest (first_bytes bytes) → IsRefused bytes why
  -- a whole head within the limits breaks a rule on its fields
  ruled : (h : RequestHead) (rest : List ℕ) → ReadsRequest bytes h rest → IsSmall h → body_length h ≡ Err why → IsRefused bytes why

-- Less than a message. Either fewer than 16,384 bytes that show no 65th field, and that may become a head or end inside a request target,
-- even one that cannot become UTF-8; or a served head with less than its body. The empty input is awaited, and so are empty lines.
-- Shown by: tables api_messages.rows: a_message_cut_anywhere_is_the_same_message.
pub data IsAwaited (bytes : List ℕ) : Type 0 where
  head_awaited : length bytes < 16384 → HasNoRequest bytes → MayBecomeRequest bytes → ¬ (Begins65th bytes) → IsAwaited bytes
  body_awaited : (h : RequestHead) (part : List ℕ) (body_len : ℕ) → ReadsRequest bytes h part → IsServed h body_len → length part < body_len → IsAwaited bytes

-- A message is whole at the front of the bytes, and this is the rest.
-- Shown by: tables api_messages.rows: messages_follow_one_another_in_any_pieces.
abbrev pub HoldsMessage : List ℕ → Message → List ℕ → Type 0
HoldsMessage bytes m rest = (front : List ℕ) × IsMessage front m × (bytes ≡ front ++ rest)

-- The bytes are these messages in order, and then the rest.
-- Shown by: tables api_messages.rows: messages_follow_one_another_in_any_pieces.
abbrev pub IsStream : List ℕ → List Message → List ℕ → Type 0
IsStream bytes [] rest = bytes ≡ rest
IsStream bytes (m ∷ ms) rest = (after : List ℕ) × HoldsMessage bytes m after × IsStream after ms rest

-- No message is whole at the front: the bytes are awaited, or refused for some reason.
-- Shown by: tables api_messages.rows: messages_follow_one_another_in_any_pieces.
abbrev pub IsLeft : List ℕ → Type 0
IsLeft bytes = IsAwaited bytes ⊎ ((why : Refusal) × IsRefused bytes why)
