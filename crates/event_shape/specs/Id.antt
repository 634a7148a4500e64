-- The id of an event has its number. Below 2 ^ 62 it is a UUID of version 8 (RFC 9562, section 5.8); from 2 ^ 62 on the sum changes the
-- variant bits.
use Rattle.std.specs.Prelude.{ℕ, ◌+◌, List}
use Rattle.std.specs.Int.{w128, to_be_bytes}
use Rattle.uuid.specs.Text.{hyphenated_text, lower}

-- The UUID of version 8 with variant bits 10 (RFC 9562, sections 5.8 and 4.1) and no other bit (this project's own rule).
-- Shown by: event_tests test_event_shape.rt: ids_are_as_they_are_spelled.
abbrev pub id_base : ℕ
id_base = 0x00000000000080008000000000000000

-- The id of the event of a number: the text (RFC 9562, section 4), in lower case by this project's choice, of the base plus the number, in
-- 16 bytes. Number 1 gives `00000000-0000-8000-8000-000000000001`. From 2^62 on the sum changes the variant bits, but ids stay distinct.
-- Shown by: event_tests test_event_shape.rt: ids_are_as_they_are_spelled.
abbrev pub event_id : ℕ → List ℕ
event_id number = hyphenated_text lower (to_be_bytes w128 (id_base + number))
