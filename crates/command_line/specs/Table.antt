-- The command `ebusd`: its subcommands and their options. To `clap` the value of an option is a text.
use Rattle.std.specs.Prelude.{true, List, [], ◌∷◌, fold, codes, Some}
use Rattle.clap.specs.Walk.{Rule, Text}
use Rattle.clap.specs.Simple.{App, new_app, new_rule, on_top, with_rule, with_subcommand}
use Rattle.clap.specs.declared.builder.value_parser.ValueParser.TheVariants as parsers

-- An option with one value: `--name VALUE` or `--name=VALUE`.
-- Shown by: command_tests test_command_line.rt: words_are_read_to_their_command.
abbrev pub option : Text → Rule
option name = record (new_rule name) { long = Some name; value_names = 1 }

-- The option `--journal`, whose value is not empty.
-- Shown by: command_tests test_command_line.rt: other_words_are_refused.
abbrev pub journal : Rule
journal = record (option (codes "journal")) { parser = Some parsers.NonEmptyString }

-- An option that has to be there.
-- Shown by: connections_are_required.edit.
abbrev pub required : Rule → Rule
required rule = record rule { required = true }

-- A subcommand with these options, in the order in which its help lists them.
-- Shown by: command_tests test_command_line.rt: help_is_asked_for.
abbrev pub subcommand : Text → List Rule → App
subcommand name options = fold with_rule (new_app name) options

-- The subcommands.
-- Shown by: command_tests test_command_line.rt: words_are_read_to_their_command.
unfoldable pub serve : App
serve = subcommand (codes "serve") (journal ∷ option (codes "port") ∷ option (codes "workers") ∷ option (codes "connections") ∷ [])

-- as `serve`
unfoldable pub once : App
once = subcommand (codes "once") (journal ∷ option (codes "now") ∷ [])

-- as `serve`
unfoldable pub check : App
check = subcommand (codes "check") (required journal ∷ [])

-- as `serve`
unfoldable pub drill : App
drill = subcommand (codes "drill") (required (option (codes "seed")) ∷ required (option (codes "events")) ∷ [])

-- The program without its subcommands: it has a version, and one of them has to be there.
-- Shown by: command_tests test_command_line.rt: other_words_are_refused.
unfoldable pub program : App
program = on_top (λ s. record s { has_version = true; arg_required_else_help = true; subcommand_required = true }) (new_app (codes "ebusd"))

-- The whole command.
-- Shown by: command_tests test_command_line.rt: words_are_read_to_their_command.
unfoldable pub ebusd : App
ebusd = fold (λ app sub. with_subcommand app sub.top) program (serve ∷ once ∷ check ∷ drill ∷ [])
