-- For private clauses alone: where a step of a path ends.
use Rattle.std.specs.Prelude.{◌≡◌, ℕ, true, false, List, [], ◌∷◌, ◌++◌}
use Rattle.std.specs.List.{list_all}
use Rattle.input_transform.specs.declared.path.Step.{Step}
use Rattle.input_transform.specs.declared.path.Step.TheVariants.{Name, Place}
use Rattle.input_transform.specs.Path.{is_letter, IsStep, step_text}

abbrev pub IsLetters : List ℕ → Type 0
IsLetters bytes = list_all is_letter bytes ≡ true

-- a name could not go on with these bytes
abbrev pub IsNoLetterFirst : List ℕ → Type 0
IsNoLetterFirst [] = Unit {0}
IsNoLetterFirst (b ∷ bs) = is_letter b ≡ false

-- the bytes are a step as it is written, and then the rest
abbrev pub BeginsSo : List ℕ → Step → List ℕ → Type 0
BeginsSo bytes step rest = (bytes ≡ step_text step ++ rest) × IsStep step

-- the step could not go on with the rest
abbrev pub Ends : Step → List ℕ → Type 0
Ends (Name name) rest = IsNoLetterFirst rest
Ends (Place n) rest = Unit {0}
