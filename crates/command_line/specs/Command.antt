-- Which words are which command.
use Rattle.std.specs.Prelude.{◌≡◌, ℕ, List, [], Option, Some, None, MatchOption, IsSomeAnd, codes, option_map}
use Rattle.clap.specs.Walk.{Row, Text, first_of}
use Rattle.clap.specs.Simple.{App, subcommand_of}
use Rattle.clap.specs.Faults.{fault_of}
use Rattle.command_line.specs.Number.{IsNumber}
use Rattle.command_line.specs.Table as table
use Rattle.command_line.specs.declared.command.Command.{Command}
use Rattle.command_line.specs.declared.command.Command.TheVariants as commands

-- A command as contracts see it: numbers, and the texts of paths.
-- Shown by: command_tests test_command_line.rt: words_are_read_to_their_command.
pub data CommandView : Type 0 where
  serve : (journal : Option Text) (port workers : ℕ) (connections : Option ℕ) → CommandView
  once : (journal : Option Text) (now : Option ℕ) → CommandView
  check : (journal : Text) → CommandView
  drill : (seed events : ℕ) → CommandView

-- What contracts see of a command.
-- Shown by: command_tests test_command_line.rt: words_are_read_to_their_command.
abbrev pub command_view : Command → CommandView
command_view (commands.Serve journal port workers connections) = serve (option_map (λ s. s.now) journal) port workers connections
command_view (commands.Once journal now) = once (option_map (λ s. s.now) journal) now
command_view (commands.Check journal) = check journal.now
command_view (commands.Drill seed events) = drill seed events

-- The subcommand of a command.
-- Shown by: command_tests test_command_line.rt: words_are_read_to_their_command.
abbrev pub subcommand_for : CommandView → App
subcommand_for (serve journal port workers connections) = table.serve
subcommand_for (once journal now) = table.once
subcommand_for (check journal) = table.check
subcommand_for (drill seed events) = table.drill

-- The name of a command's subcommand.
-- Shown by: command_tests test_command_line.rt: words_are_read_to_their_command.
abbrev pub name_of : CommandView → Text
name_of (serve journal port workers connections) = codes "serve"
name_of (once journal now) = codes "once"
name_of (check journal) = codes "check"
name_of (drill seed events) = codes "drill"

-- An option that may be absent: a number in its bounds if it is there.
-- Shown by: command_tests test_command_line.rt: words_are_read_to_their_command.
abbrev pub IsOptional : ℕ → ℕ → Option Text → Option ℕ → Type 0
IsOptional least most None number = number ≡ None
IsOptional least most (Some word) number = IsSomeAnd number (IsNumber least most word)

-- The members of a command are what the options give, which a function finds by their names: `--port` 1 to 65,535, or 9,100 if it is
-- absent; `--workers` 1 to 1,024, or 64; `--connections` 1 to 1,000,000; `--now` 0 to 250,000,000,000; `--seed` 0 to 2,147,483,647;
-- `--events` 1 to 100,000; `--journal` a path. That these are the names of the table is shown by law lines_are_commands.
-- Shown by: a_number_out_of_range_is_read.edit; connections_are_required.edit.
abbrev pub HasValues : (Text → Option Text) → CommandView → Type 0
HasValues given (serve journal port workers connections) =
    (given (codes "journal") ≡ journal)
    × MatchOption (given (codes "port")) (port ≡ 9100) (λ word. IsNumber 1 65535 word port)
    × MatchOption (given (codes "workers")) (workers ≡ 64) (λ word. IsNumber 1 1024 word workers)
    × IsOptional 1 1000000 (given (codes "connections")) connections
HasValues given (once journal now) = (given (codes "journal") ≡ journal) × IsOptional 0 250000000000 (given (codes "now")) now
HasValues given (check journal) = given (codes "journal") ≡ Some journal
HasValues given (drill seed events) =
    IsSomeAnd (given (codes "seed")) (λ word. IsNumber 0 2147483647 word seed)
    × IsSomeAnd (given (codes "events")) (λ word. IsNumber 1 100000 word events)

-- A subcommand and what `clap` found of its options are a command.
-- Shown by: as HasValues.
abbrev pub IsEntered : Option (Text × List Row) → CommandView → Type 0
IsEntered entered command =
    IsSomeAnd entered (λ found. (found.0 ≡ name_of command) × HasValues (λ name. first_of name found.1) command)

-- `clap` takes the words, and what it finds in them is the command. The first word is the program's name, which may be any word.
-- Shown by: command_tests test_command_line.rt: words_are_read_to_their_command, other_words_are_refused.
abbrev pub IsCommand : List Text → CommandView → Type 0
IsCommand words command = (fault_of table.ebusd words ≡ []) × IsEntered (subcommand_of table.ebusd words) command

-- Words are at most one command.
-- Shown by: law one_command.
abbrev pub HaveOneCommand : Type 0
HaveOneCommand = (words : List Text) (a b : CommandView) → IsCommand words a → IsCommand words b → a ≡ b
