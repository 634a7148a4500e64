-- The command `ebusd` in `clap`'s terms: it is simple (`simple`), its subcommands are entered by their names, and their options fit.
use Rattle.std.proofs.Common.{◌≡◌, Bool, zero, suc, true, refl, subst, List, [], ◌∷◌, map, Some, length, arith, codes, lt-ltb}
use Rattle.std.specs.Prelude.{Contains}
use Rattle.clap.specs.Faults.{is_free_app, is_simple_and_free}
use Rattle.clap.specs.Simple.{App, Shape, argument_words, is_simple, built, built_leaf, inherited, marked_built, with_leaf_noted}
use Rattle.clap.specs.Takes.{value_passes}
use Rattle.clap.specs.Walk.{Rule, Text}
use Rattle.clap.specs.declared.builder.action.ArgAction.TheVariants.{Set}
use Rattle.clap.specs.declared.builder.value_parser.ValueParser.{ValueParser}
use Rattle.clap.specs.declared.builder.value_parser.ValueParser.TheVariants as parsers
use Rattle.clap.proofs.OnLiterals.{clap_on_literals}
use Rattle.clap.proofs.WalkLemmas.{both}
use Rattle.command_line.specs.Line.{IsValue}
use Rattle.command_line.specs.Table.{check, drill, ebusd, once, option, program, serve}
use Rattle.command_line.proofs.LeafLemmas.{HasRequired, IsPlainLeaf}
use Rattle.command_line.proofs.OptionLemmas.{Has}
use Rattle.command_line.proofs.TopLemmas.{Enters, IsTop}

pub simple : is_simple_and_free ebusd ≡ true
unfolding ebusd program serve once check drill
simple = refl

pub simple_alone : is_simple ebusd ≡ true
simple_alone = (both (is_simple ebusd) (is_free_app (built ebusd)) simple).0

-- a subcommand as it is built below `ebusd`
abbrev pub leaf_of : App → Shape
leaf_of sub = built_leaf (inherited (with_leaf_noted (marked_built ebusd.top)) sub.top)

pub top : IsTop (built ebusd)
unfolding ebusd program serve once check drill
top = record { defaults = refl; optional = λ rows. refl }

pub first_word : (word : Text) (words : List Text) → argument_words ebusd (word ∷ words) ≡ words
unfolding ebusd program serve once check drill
first_word word words = refl

pub enters_serve : Enters (built ebusd) (codes "serve") (leaf_of serve)
unfolding clap_on_literals ebusd program serve once check drill
enters_serve = record { starts = refl; turn = refl; found = refl; name = refl }

pub enters_once : Enters (built ebusd) (codes "once") (leaf_of once)
unfolding clap_on_literals ebusd program serve once check drill
enters_once = record { starts = refl; turn = refl; found = refl; name = refl }

pub enters_check : Enters (built ebusd) (codes "check") (leaf_of check)
unfolding clap_on_literals ebusd program serve once check drill
enters_check = record { starts = refl; turn = refl; found = refl; name = refl }

pub enters_drill : Enters (built ebusd) (codes "drill") (leaf_of drill)
unfolding clap_on_literals ebusd program serve once check drill
enters_drill = record { starts = refl; turn = refl; found = refl; name = refl }

pub plain_serve : IsPlainLeaf (leaf_of serve)
unfolding ebusd program serve once check drill
plain_serve = record { defaults = refl; help = refl; subcommand = refl; negates = refl }

pub plain_once : IsPlainLeaf (leaf_of once)
unfolding ebusd program serve once check drill
plain_once = record { defaults = refl; help = refl; subcommand = refl; negates = refl }

pub plain_check : IsPlainLeaf (leaf_of check)
unfolding ebusd program serve once check drill
plain_check = record { defaults = refl; help = refl; subcommand = refl; negates = refl }

pub plain_drill : IsPlainLeaf (leaf_of drill)
unfolding ebusd program serve once check drill
plain_drill = record { defaults = refl; help = refl; subcommand = refl; negates = refl }

-- ---- options

-- an option of a built subcommand
abbrev ready : Text → ValueParser → Rule
ready name parser = record (option name) {
  action = Some Set;
  parser = Some parser;
  range = Some (record { start_inclusive = 1; end_inclusive = 1 });
}

abbrev needed : Rule → Rule
needed rule = record rule { required = true }

path_passes : (rule : Rule) → rule.parser ≡ Some parsers.NonEmptyString → (v : Text) → IsValue v → value_passes rule v ≡ true
path_passes rule is [] h = absurd h
path_passes rule is (b ∷ v) h = rw is (lt-ltb 0 (length (b ∷ v)) (omega arith))

serve_port : Has (leaf_of serve) (codes "port")
unfolding ebusd program serve once check drill
serve_port = (ready (codes "port") parsers.String, refl, record { dashes = refl; long = refl; by_long = refl; by_id = refl; same = refl; range = refl; action = refl }, λ v h. refl)

serve_workers : Has (leaf_of serve) (codes "workers")
unfolding ebusd program serve once check drill
serve_workers = (ready (codes "workers") parsers.String, refl, record { dashes = refl; long = refl; by_long = refl; by_id = refl; same = refl; range = refl; action = refl }, λ v h. refl)

serve_connections : Has (leaf_of serve) (codes "connections")
unfolding ebusd program serve once check drill
serve_connections = (ready (codes "connections") parsers.String, refl, record { dashes = refl; long = refl; by_long = refl; by_id = refl; same = refl; range = refl; action = refl }, λ v h. refl)

serve_journal : Has (leaf_of serve) (codes "journal")
unfolding ebusd program serve once check drill
serve_journal = (
  ready (codes "journal") parsers.NonEmptyString,
  refl,
  record { dashes = refl; long = refl; by_long = refl; by_id = refl; same = refl; range = refl; action = refl },
  path_passes (ready (codes "journal") parsers.NonEmptyString) refl,
)

once_journal : Has (leaf_of once) (codes "journal")
unfolding ebusd program serve once check drill
once_journal = (
  ready (codes "journal") parsers.NonEmptyString,
  refl,
  record { dashes = refl; long = refl; by_long = refl; by_id = refl; same = refl; range = refl; action = refl },
  path_passes (ready (codes "journal") parsers.NonEmptyString) refl,
)

once_now : Has (leaf_of once) (codes "now")
unfolding ebusd program serve once check drill
once_now = (ready (codes "now") parsers.String, refl, record { dashes = refl; long = refl; by_long = refl; by_id = refl; same = refl; range = refl; action = refl }, λ v h. refl)

check_journal : Has (leaf_of check) (codes "journal")
unfolding ebusd program serve once check drill
check_journal = (
  needed (ready (codes "journal") parsers.NonEmptyString),
  refl,
  record { dashes = refl; long = refl; by_long = refl; by_id = refl; same = refl; range = refl; action = refl },
  path_passes (needed (ready (codes "journal") parsers.NonEmptyString)) refl,
)

drill_seed : Has (leaf_of drill) (codes "seed")
unfolding ebusd program serve once check drill
drill_seed = (needed (ready (codes "seed") parsers.String), refl, record { dashes = refl; long = refl; by_long = refl; by_id = refl; same = refl; range = refl; action = refl }, λ v h. refl)

drill_events : Has (leaf_of drill) (codes "events")
unfolding ebusd program serve once check drill
drill_events = (needed (ready (codes "events") parsers.String), refl, record { dashes = refl; long = refl; by_long = refl; by_id = refl; same = refl; range = refl; action = refl }, λ v h. refl)

-- ---- each name of an option

pub pick_serve : (name : Text) → Contains (map (λ rule. rule.id) serve.top.rules) name → Has (leaf_of serve) name
unfolding serve
pick_serve name (zero, lt, is) = subst (Has (leaf_of serve)) is serve_journal
pick_serve name (suc zero, lt, is) = subst (Has (leaf_of serve)) is serve_port
pick_serve name (suc (suc zero), lt, is) = subst (Has (leaf_of serve)) is serve_workers
pick_serve name (suc (suc (suc zero)), lt, is) = subst (Has (leaf_of serve)) is serve_connections
pick_serve name (suc (suc (suc (suc k))), lt, is) = absurd (omega arith)

pub pick_once : (name : Text) → Contains (map (λ rule. rule.id) once.top.rules) name → Has (leaf_of once) name
unfolding once
pick_once name (zero, lt, is) = subst (Has (leaf_of once)) is once_journal
pick_once name (suc zero, lt, is) = subst (Has (leaf_of once)) is once_now
pick_once name (suc (suc k), lt, is) = absurd (omega arith)

pub pick_check : (name : Text) → Contains (map (λ rule. rule.id) check.top.rules) name → Has (leaf_of check) name
unfolding check
pick_check name (zero, lt, is) = subst (Has (leaf_of check)) is check_journal
pick_check name (suc k, lt, is) = absurd (omega arith)

pub pick_drill : (name : Text) → Contains (map (λ rule. rule.id) drill.top.rules) name → Has (leaf_of drill) name
unfolding drill
pick_drill name (zero, lt, is) = subst (Has (leaf_of drill)) is drill_seed
pick_drill name (suc zero, lt, is) = subst (Has (leaf_of drill)) is drill_events
pick_drill name (suc (suc k), lt, is) = absurd (omega arith)

-- ---- options that have to be there

pub needs_serve : (given : Text → Bool) → HasRequired (leaf_of serve).rules given
unfolding ebusd program serve once check drill
needs_serve given = refl

pub needs_once : (given : Text → Bool) → HasRequired (leaf_of once).rules given
unfolding ebusd program serve once check drill
needs_once given = refl

pub needs_check : (given : Text → Bool) → given (codes "journal") ≡ true → HasRequired (leaf_of check).rules given
unfolding ebusd program serve once check drill
needs_check given journal = rw journal refl

pub needs_drill : (given : Text → Bool) → given (codes "seed") ≡ true → given (codes "events") ≡ true → HasRequired (leaf_of drill).rules given
unfolding ebusd program serve once check drill
needs_drill given seed events = rw (seed, events) refl
