-- Numbers of the command line.
use Rattle.std.specs.Prelude.{◌≡◌, ℕ, ◌≤◌, List, decimal}

-- The plain digits of a number between two bounds, both included. `007` and `+7` are no such digits.
-- Shown by: a_leading_zero_is_read.edit.
abbrev pub IsNumber : ℕ → ℕ → List ℕ → ℕ → Type 0
IsNumber least most word number = (least ≤ number) × (number ≤ most) × (word ≡ decimal number)
