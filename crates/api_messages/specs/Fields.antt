-- The fields of a request head, each with its rule, and the length of the body that a head announces.
use Rattle.std.specs.Prelude.{ℕ, Bool, true, false, not, ◌&&◌, ◌||◌, List, [], ◌∷◌, length, map, filter, Option, Some, None, Result, Ok, Err}
use Rattle.std.specs.Prelude.{if◌then◌else◌, ◌==◌}
use Rattle.std.specs.Prelude.{nat_le, codes, bytes_eq}
use Rattle.std.specs.List.{list_all, list_any}
use Rattle.std.specs.Char.{is_ascii_digit, to_ascii_lowercase}
use Rattle.std.specs.Str.{is_utf8}
use Rattle.std.specs.Str.Parse.{digits_value}
use Rattle.json_text.specs.Limits.{most_body}
use Rattle.httparse.specs.Grammar.{RequestHead}
use Rattle.httparse.specs.Spans.{name_and_value}
use Rattle.api_messages.specs.declared.method.Method.{Method}
use Rattle.api_messages.specs.declared.method.Method.TheVariants.{Post, Head, Other}
use Rattle.api_messages.specs.declared.message.Refusal.{Refusal}
use Rattle.api_messages.specs.declared.message.Refusal.TheVariants.{BadHead, LengthRequired, TooLarge}

-- The method that the bytes name: POST, HEAD or another. Case counts (RFC 9110, section 9.1).
-- Shown by: tables api_messages.rows: other_methods_may_have_a_body_or_none.
unfoldable pub method_of : List ℕ → Method
method_of bytes = if bytes_eq bytes (codes "POST") then Post else (if bytes_eq bytes (codes "HEAD") then Head else Other)

-- POST, the only method that is served
abbrev pub is_post : Method → Bool
is_post Post = true
is_post Head = false
is_post Other = false

-- a field's name, and its value without the white space around it (RFC 9112, section 5)
abbrev pub Pair : Type 0
Pair = List ℕ × List ℕ

-- the fields of a head, in order
abbrev pub pairs_of : RequestHead → List Pair
pairs_of h = map name_and_value h.fields

-- the two are equal except for the case of letters; names of fields and options of a connection are compared in this way
-- (RFC 9110, sections 5.1 and 7.6.1)
unfoldable pub is_named : List ℕ → List ℕ → Bool
is_named name field = bytes_eq (map to_ascii_lowercase field) (map to_ascii_lowercase name)

-- The values of the fields of a name, in order, without the white space around each value. Names are compared without case.
-- Shown by: tables api_messages.rows: a_sender_asks_to_close_by_version_or_by_a_field.
abbrev pub values_of : List ℕ → List Pair → List (List ℕ)
values_of name pairs = map (λ p. p.1) (filter (λ p. is_named name p.0) pairs)

-- how often a field is in a head, and its value if it is there once
pub data Occurrence : Type 0 where
  absent repeated : Occurrence
  once : List ℕ → Occurrence

-- A field is absent, occurs once with this value, or is repeated.
-- Shown by: tables api_messages.rows: heads_that_break_a_rule_are_refused_from_their_last_byte_on.
abbrev pub occurs : List (List ℕ) → Occurrence
occurs [] = absent
occurs (value ∷ []) = once value
occurs (value ∷ other ∷ others) = repeated

-- the occurrence of the fields of a name
abbrev pub occurrence_of : List ℕ → List Pair → Occurrence
occurrence_of name pairs = occurs (values_of name pairs)

-- A Connection value that asks to close: `close` as a whole, without case (RFC 9112, section 9.6). A list of options is not read (this
-- project's own rule).
-- Shown by: tables api_messages.rows: a_sender_asks_to_close_by_version_or_by_a_field.
abbrev pub is_close : List ℕ → Bool
is_close value = is_named (codes "close") value

-- the fields that are read; every other field is ignored
pub record Known : Type 0 where
  pub host : Occurrence
  pub length : Occurrence
  pub coding : Occurrence
  pub target : Occurrence
  pub caller : Occurrence
  pub close : Bool

-- the fields that are read, of a list of fields; the names here are ASCII, in lower case
abbrev pub known_of : List Pair → Known
known_of pairs = record {
  host = occurrence_of (codes "host") pairs;
  length = occurrence_of (codes "content-length") pairs;
  coding = occurrence_of (codes "transfer-encoding") pairs;
  target = occurrence_of (codes "x-amz-target") pairs;
  caller = occurrence_of (codes "x-caller-account") pairs;
  close = list_any is_close (values_of (codes "connection") pairs);
}

-- one Host field, or none in version 1.0 (RFC 9112, section 3.2); its value is not checked
abbrev pub is_host_sound : ℕ → Occurrence → Bool
is_host_sound minor absent = minor == 0
is_host_sound minor (once value) = true
is_host_sound minor repeated = false

-- no such field
abbrev pub is_absent : Occurrence → Bool
is_absent absent = true
is_absent (once value) = false
is_absent repeated = false

-- two such fields or more
abbrev pub is_repeated : Occurrence → Bool
is_repeated absent = false
is_repeated (once value) = false
is_repeated repeated = true

-- 1 to 10 decimal digits, leading zeros too (RFC 9110, section 8.6; the number of digits is this project's own bound).
-- Shown by: tables api_messages.rows: heads_that_break_a_rule_are_refused_from_their_last_byte_on.
unfoldable pub is_length : List ℕ → Bool
is_length value = (nat_le 1 (length value) && nat_le (length value) 10) && list_all is_ascii_digit value

-- The length that a Content-Length writes: `0000000017` is 17. `1048577` is refused as `TooLarge` (this project's own limit), `+1` as
-- `BadHead`.
-- Shown by: tables api_messages.rows: heads_that_break_a_rule_are_refused_from_their_last_byte_on.
unfoldable pub length_of : List ℕ → Result ℕ Refusal
length_of value =
    if is_length value then (if nat_le (digits_value 10 value) most_body then Ok (digits_value 10 value) else Err TooLarge) else Err BadHead

-- The length of the body by the Content-Length fields. If there is none, a POST is refused as `LengthRequired`, and another method has no
-- body. Two are `BadHead`.
-- Shown by: a_head_request_needs_a_length.edit.
abbrev pub length_at : Method → Occurrence → Result ℕ Refusal
length_at method absent = if is_post method then Err LengthRequired else Ok 0
length_at method (once value) = length_of value
length_at method repeated = Err BadHead

-- A field's value as a text; a value that is not UTF-8 is the empty text.
-- Shown by: tables api_messages.rows: a_field_that_is_not_utf_8_is_an_empty_text; request_tests test_api_messages.rt:
-- a_field_that_is_not_utf_8_is_an_empty_text.
unfoldable pub text_of : List ℕ → List ℕ
text_of value = if is_utf8 value then value else []

-- the text of a field that is there once
abbrev pub text_at : Occurrence → Option (List ℕ)
text_at absent = None
text_at (once value) = Some (text_of value)
text_at repeated = None

-- a sound Host, no Transfer-Encoding (this project reads no coding; RFC 9112, section 6.1), and neither of the two fields of
-- the API twice
abbrev pub is_sound : ℕ → Known → Bool
is_sound minor k = is_host_sound minor k.host && (is_absent k.coding && (not (is_repeated k.target) && not (is_repeated k.caller)))

-- the length of the body after a head with that method, version and fields, or why the head is refused
abbrev pub body_length_by : Method → ℕ → Known → Result ℕ Refusal
body_length_by method minor k = if is_sound minor k then length_at method k.length else Err BadHead

-- The length of the body after a head (RFC 9112, section 6.3), or why it is refused. `BadHead` comes first: not one Host (or none in
-- version 1.0), a Transfer-Encoding, X-Amz-Target or x-caller-account twice, or a Content-Length that is no number. Then `TooLarge` or
-- `LengthRequired`.
-- Shown by: too_large_before_bad_head.edit.
abbrev pub body_length : RequestHead → Result ℕ Refusal
body_length h = body_length_by (method_of h.method) h.minor (known_of (pairs_of h))

-- Version 1.0, or a Connection field that is `close` (RFC 9112, section 9.3). `Connection: keep-alive, close` does not ask to close.
-- Shown by: tables api_messages.rows: a_sender_asks_to_close_by_version_or_by_a_field.
abbrev pub asks_to_close : RequestHead → Bool
asks_to_close h = (h.minor == 0) || (known_of (pairs_of h)).close
