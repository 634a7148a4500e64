-- Texts without regard to the case of ASCII letters, as std folds them: bytes 65 to 90 are read as
-- 97 to 122, and no others.
use Rattle.std.specs.Prelude.{◌≡◌, ℕ, List, ◌++◌}
use Rattle.std.specs.Str.{str_to_ascii_lowercase}

-- The text begins with the other text, with ASCII letters folded to lower case. `É` is not `é`.
-- Shown by: text_tests test_leaf_match.rt: folded.
abbrev pub StartsCi : List ℕ → List ℕ → Type 0
StartsCi text front =
    (rest : List ℕ) × (str_to_ascii_lowercase text ≡ str_to_ascii_lowercase front ++ rest)

-- The text ends with the other text, with ASCII letters folded to lower case.
-- Shown by: text_tests test_leaf_match.rt: folded.
abbrev pub EndsCi : List ℕ → List ℕ → Type 0
EndsCi text end =
    (rest : List ℕ) × (str_to_ascii_lowercase text ≡ rest ++ str_to_ascii_lowercase end)

-- The two texts are equal, with ASCII letters folded to lower case.
-- Shown by: text_tests test_leaf_match.rt: folded.
abbrev pub EqualCi : List ℕ → List ℕ → Type 0
EqualCi a b = str_to_ascii_lowercase a ≡ str_to_ascii_lowercase b
