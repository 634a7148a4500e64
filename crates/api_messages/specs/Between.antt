-- The empty lines between messages, and a head whose body may not be there yet.
use Rattle.std.specs.Prelude.{◌≡◌, ℕ, List, [], ◌∷◌}
use Rattle.httparse.specs.Grammar.{RequestHead, ReadsRequest}

-- No bytes, or CR LF pairs only, which belong to the message after them (RFC 9112, section 2.2). A single LF is no empty line.
-- Shown by: request_tests test_api_messages.rt: heads_and_empty_lines_are_seen_in_the_rest.
abbrev pub AreEmptyLines : List ℕ → Type 0
AreEmptyLines [] = Unit {0}
AreEmptyLines (a ∷ []) = ⊥
AreEmptyLines (a ∷ b ∷ bytes) = (a ≡ 13) × (b ≡ 10) × AreEmptyLines bytes

-- A whole head is at the front.
-- Shown by: request_tests test_api_messages.rt: heads_and_empty_lines_are_seen_in_the_rest.
abbrev pub HasHead : List ℕ → Type 0
HasHead bytes = (head : RequestHead) × (rest : List ℕ) × ReadsRequest bytes head rest
