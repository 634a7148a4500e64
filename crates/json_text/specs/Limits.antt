-- Limits of this project's own that several crates know.
use Rattle.std.specs.Prelude.{ℕ}

-- The most bytes that the body of a request may have.
-- Shown by: .ci/checks/limits.sh.
abbrev pub most_body : ℕ
most_body = 1048576

-- The most bytes that the entries of a PutEvents may have together.
-- Shown by: .ci/checks/limits.sh.
abbrev pub most_together : ℕ
most_together = 262144

-- The most bytes that the text of a delivery may have.
-- Shown by: .ci/checks/limits.sh.
abbrev pub most_text : ℕ
most_text = 1048576
