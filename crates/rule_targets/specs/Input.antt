-- Which inputs of targets are valid, and what is read of them. The numbers are those of the Amazon EventBridge API Reference; what is a path
-- or a template is input_transform's own rule.
use Rattle.std.specs.Prelude.{◌≡◌, ◌≤◌, ℕ, Bool, true, ◌&&◌, not, nat_le, nat_eq, List, [], ◌∷◌, length, codes, Option, Some, None}
use Rattle.std.specs.List.{list_any, starts_with}
use Rattle.std.specs.Str.{bytes_eq, chars}
use Rattle.std.specs.Arc.{arc_value}
use Rattle.json_text.specs.Node.{Node, value_of}
use Rattle.json_text.specs.Grammar.{IsText}
use Rattle.json_text.specs.Compact.{compact_text}
use Rattle.event_shape.specs.Names.{is_name_of}
use Rattle.input_transform.specs.declared.path.Step.{Step}
use Rattle.input_transform.specs.declared.fill.Input.{Input}
use Rattle.input_transform.specs.declared.fill.Input.TheVariants as input
use Rattle.input_transform.specs.Path.{IsPath, is_letter}
use Rattle.input_transform.specs.Names.{Paths}
use Rattle.input_transform.specs.Template.{Content, IsTemplate}
use Rattle.input_transform.specs.Stored.{FillsAs}
use Rattle.rule_targets.specs.Given.{Transformer}
use Rattle.rule_targets.specs.declared.given.GivenInput.{GivenInput}
use Rattle.rule_targets.specs.declared.given.GivenInput.TheVariants as given

-- The text has from `least` to `most` characters, which are Unicode scalar values.
-- Shown by: a_long_input_is_accepted.edit; tables rule_targets.rows: an_input_is_json_within_its_limits.
abbrev pub has_chars : ℕ → ℕ → List ℕ → Bool
has_chars least most t = nat_le least (length (chars t)) && nat_le (length (chars t)) most

-- An Input: 1 to 8,192 characters that are JSON within 100 levels.
-- Shown by: a_long_input_is_accepted.edit; tables rule_targets.rows: an_input_is_json_within_its_limits.
pub record IsInput (t : List ℕ) : Type 0 where
  pub size : has_chars 1 8192 t ≡ true
  pub json : (n : Node) × IsText 100 t n

-- An InputPath: 1 to 256 characters that are a path.
-- Shown by: tables rule_targets.rows: an_input_path_is_a_path_within_its_limit.
pub record IsInputPath (t : List ℕ) : Type 0 where
  pub size : has_chars 1 256 t ≡ true
  pub path : (steps : List Step) × IsPath t steps

-- A key of an InputPathsMap: 1 to 256 of `A-Z a-z 0-9 _ -`. Keys that begin with `AWS` are reserved.
-- Shown by: a_reserved_key_is_accepted.edit; tables rule_targets.rows: a_map_of_paths_has_its_keys.
abbrev pub is_key : List ℕ → Bool
is_key key = is_name_of is_letter 256 key && not (starts_with nat_eq key (codes "AWS"))

-- an entry has this key
abbrev pub has_key : List ℕ → List (List ℕ × List ℕ) → Bool
has_key key = list_any (λ entry. bytes_eq entry.0 key)

-- The key is valid, and none of the other entries has it.
-- Shown by: a_reserved_key_is_accepted.edit; a_key_is_accepted_twice.edit.
abbrev pub is_new_key : List ℕ → List (List ℕ × List ℕ) → Bool
is_new_key key others = is_key key && not (has_key key others)

-- The entries of an InputPathsMap are these paths, of any length, under the same keys, which are valid (`is_key`) and distinct.
-- Shown by: a_reserved_key_is_accepted.edit; a_key_is_accepted_twice.edit; tables rule_targets.rows: a_map_of_paths_has_its_keys.
abbrev pub ArePaths : List (List ℕ × List ℕ) → Paths → Type 0
ArePaths [] paths = paths ≡ []
ArePaths (entry ∷ entries) paths = (steps : List Step) × (rest : Paths) × (paths ≡ (entry.0, steps) ∷ rest)
    × (is_new_key entry.0 entries ≡ true) × IsPath entry.1 steps × ArePaths entries rest

-- An InputTransformer is this template, which names these paths.
-- Shown by: tables rule_targets.rows: a_template_has_its_limit, a_map_of_paths_has_its_keys.
pub record IsTemplateOf (t : Transformer) (paths : Paths) (c : Content) : Type 0 where
  pub entries : ArePaths t.paths paths
  pub template : IsTemplate paths t.template c

-- An InputTransformer: at most 100 paths, and 1 to 8,192 characters that are a template.
-- Shown by: a_hundred_and_one_paths_are_accepted.edit; tables rule_targets.rows: a_template_has_its_limit.
pub record IsInputTransformer (t : Transformer) : Type 0 where
  pub few : length t.paths ≤ 100
  pub size : has_chars 1 8192 t.template ≡ true
  pub template : (paths : Paths) × (c : Content) × IsTemplateOf t paths c

-- An input that is valid.
-- Shown by: a_long_input_is_accepted.edit.
abbrev pub IsValidInput : GivenInput → Type 0
IsValidInput (given.Input t) = IsInput t
IsValidInput (given.InputPath t) = IsInputPath t
IsValidInput (given.InputTransformer t) = IsInputTransformer t

-- There is no input, or it is valid.
-- Shown by: a_long_input_is_accepted.edit.
abbrev pub IsNoneOrValid : Option GivenInput → Type 0
IsNoneOrValid None = Unit {0}
IsNoneOrValid (Some input) = IsValidInput input

-- What is read of an input: the compact text of the value that an Input spells; the steps of a path; a template that fills as it is written.
-- Shown by: tables input_transform.rows: a_path_finds_a_value, an_input_is_sent_compact, a_template_is_filled.
abbrev pub IsReadOf : GivenInput → Input → Type 0
IsReadOf (given.Input t) (input.Fixed text) = (n : Node) × IsText 100 t n × (arc_value text ≡ compact_text (value_of n))
IsReadOf (given.InputPath t) (input.Path steps) = IsPath t steps
IsReadOf (given.InputTransformer t) (input.Transform stored) = (paths : Paths) × (c : Content) × IsTemplateOf t paths c × FillsAs stored c
IsReadOf _ _ = ⊥
