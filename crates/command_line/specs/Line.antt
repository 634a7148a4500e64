-- Lines that are commands, whatever `clap` is.
use Rattle.std.specs.Prelude.{◌≡◌, ◌==◌, false, List, [], ◌∷◌, ◌++◌, map, Option, Some, None, Contains, codes, if◌then◌else◌}
use Rattle.std.specs.Str.{bytes_eq}
use Rattle.clap.specs.Walk.{Text}
use Rattle.command_line.specs.Command.{CommandView, HasValues, IsCommand, name_of, subcommand_for}

-- The words of options: each `--name` and a value.
-- Shown by: law lines_are_commands.
abbrev pub words_of : List (Text × Text) → List Text
words_of [] = []
words_of (option ∷ options) = (codes "--" ++ option.0) ∷ (option.1 ∷ words_of options)

-- The value of the first option with a name.
-- Shown by: law lines_are_commands.
abbrev pub value_of : Text → List (Text × Text) → Option Text
value_of name [] = None
value_of name (option ∷ options) = if bytes_eq option.0 name then Some option.1 else value_of name options

-- A value that is not empty and does not begin with a hyphen.
-- Shown by: law lines_are_commands.
abbrev pub IsValue : Text → Type 0
IsValue [] = ⊥
IsValue (byte ∷ bytes) = (byte == 45) ≡ false

-- Options with such values, whose names are of these and no two the same.
-- Shown by: law lines_are_commands.
abbrev pub AreOptions : List Text → List (Text × Text) → Type 0
AreOptions names [] = Unit {0}
AreOptions names (option ∷ options) =
    Contains names option.0 × (value_of option.0 options ≡ None) × IsValue option.1 × AreOptions names options

-- A line of a command: the program's name, the subcommand, and its options in any order, each `--name value`. A number is plain digits in
-- its bounds.
-- Shown by: law lines_are_commands.
pub record IsLine (words : List Text) (command : CommandView) : Type 0 where
  pub program : Text
  pub options : List (Text × Text)
  pub spelled : words ≡ program ∷ (name_of command ∷ words_of options)
  pub named : AreOptions (map (λ rule. rule.id) (subcommand_for command).top.rules) options
  pub values : HasValues (λ name. value_of name options) command

-- Each line of a command is that command.
-- Shown by: law lines_are_commands.
abbrev pub LinesAreCommands : Type 0
LinesAreCommands = (words : List Text) (command : CommandView) → IsLine words command → IsCommand words command
