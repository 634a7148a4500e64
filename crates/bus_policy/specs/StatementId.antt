-- The syntax of a StatementId, which becomes the Sid of the statement that PutPermission adds (API Reference).
use Rattle.std.specs.Prelude.{ℕ, Bool, List, IsTrue}
use Rattle.event_shape.specs.Names.{is_name_of, is_queue_byte}

-- The syntax of a StatementId: from 1 to 64 bytes of `A-Z a-z 0-9 - _`.
-- Shown by: tables bus_policy.rows: ids_have_1_to_64_bytes_of_letters_digits_and_two_signs.
abbrev pub is_statement_id : List ℕ → Bool
is_statement_id sid = is_name_of is_queue_byte 64 sid

-- The text passes `is_statement_id`.
-- Shown by: tables bus_policy.rows: ids_have_1_to_64_bytes_of_letters_digits_and_two_signs.
abbrev pub IsStatementId : List ℕ → Type 0
IsStatementId sid = IsTrue (is_statement_id sid)
