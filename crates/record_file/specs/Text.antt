-- A text of an append that is being made.
use Rattle.std.specs.Prelude.{◌≡◌, ℕ, ◌-◌, List, [], ◌∷◌, ◌++◌, length, slice_set}
use Rattle.std.specs.List.{AllByRecursion}
use Rattle.record_file.specs.Records.{Fits, laid, length_bytes}

-- The text of the payloads so far; of none, no byte.
-- Shown by: proofs alone.
abbrev pub IsTextSoFar : List (List ℕ) → List ℕ → Type 0
IsTextSoFar [] text = text ≡ []
IsTextSoFar (payload ∷ payloads) text = AllByRecursion Fits (payload ∷ payloads) × (text ≡ laid (payload ∷ payloads))

-- a text with one more payload: its last gate is opened
abbrev pub text_with : List ℕ → List ℕ → List ℕ
text_with text payload = slice_set text (length text - 1) 1 ++ (length_bytes (length payload) ++ (payload ++ 0 ∷ []))
