-- Paths into a JSON value. They are this project's own form: `$`, names and numbers, and nothing else.
use Rattle.std.specs.Prelude.{◌≡◌, ◌≢◌, ◌<◌, ◌^◌, ℕ, Bool, true, ◌==◌, ◌&&◌, ◌||◌, nat_le, List, [], ◌∷◌, ◌++◌, Option, Some, decimal, slice_get}
use Rattle.std.specs.List.{list_all}
use Rattle.std.specs.Option.{option_and_then}
use Rattle.json_text.specs.Tree.{Tree, null, truth, number, text, list, object}
use Rattle.json_text.specs.Access.{member_of, trees_in}
use Rattle.input_transform.specs.declared.path.Step.{Step}
use Rattle.input_transform.specs.declared.path.Step.TheVariants.{Name, Place}

-- A byte of a name in a path: `A-Z a-z 0-9 _ -`.
-- Shown by: text_tests test_input_transform.rt: paths.
abbrev pub is_letter : ℕ → Bool
is_letter b = (nat_le 65 b && nat_le b 90) || ((nat_le 97 b && nat_le b 122) || ((nat_le 48 b && nat_le b 57) || ((b == 95) || (b == 45))))

-- A name has at least one byte, and a number is below 2^31.
-- Shown by: text_tests test_input_transform.rt: paths.
abbrev pub IsStep : Step → Type 0
IsStep (Name name) = (name ≢ []) × (list_all is_letter name ≡ true)
IsStep (Place n) = n < 2 ^ 31

abbrev pub AreSteps : List Step → Type 0
AreSteps [] = Unit {0}
AreSteps (step ∷ steps) = IsStep step × AreSteps steps

-- How a step is written: `.name` or `[n]`. A number has no leading zeros.
-- Shown by: text_tests test_input_transform.rt: paths.
abbrev pub step_text : Step → List ℕ
step_text (Name name) = 46 ∷ name
step_text (Place n) = 91 ∷ (decimal n ++ 93 ∷ [])

abbrev pub steps_text : List Step → List ℕ
steps_text [] = []
steps_text (step ∷ steps) = step_text step ++ steps_text steps

-- The text is a path of these steps: `$`, and each step as it is written. `$.a[01]`, `$..a` and `$['a']` are no paths.
-- Shown by: text_tests test_input_transform.rt: paths; tables input_transform.rows: texts_are_paths_or_none.
abbrev pub IsPath : List ℕ → List Step → Type 0
IsPath bytes steps = (bytes ≡ 36 ∷ steps_text steps) × AreSteps steps

-- The values of a list, in order. Any other value has none.
abbrev pub items_in : Tree → List Tree
items_in (list items) = trees_in items
items_in null = []
items_in (truth b) = []
items_in (number spelling) = []
items_in (text t) = []
items_in (object inside) = []

-- What a step finds in a value: a name the member of an object, a number the item of a list, from 0. Any other step finds nothing.
-- Shown by: text_tests test_input_transform.rt: paths.
abbrev pub step_in : Step → Tree → Option Tree
step_in (Name name) tree = member_of name tree
step_in (Place n) tree = slice_get (items_in tree) n

-- What a path finds in a value: each step looks into what the steps before it found. `$` finds the value itself.
-- Shown by: text_tests test_input_transform.rt: paths; tables input_transform.rows: a_path_finds_a_value.
abbrev pub found_at : List Step → Tree → Option Tree
found_at [] tree = Some tree
found_at (step ∷ steps) tree = option_and_then (found_at steps) (step_in step tree)
