-- What is stored of a template, and what a target's text is of it.
use Rattle.std.specs.Prelude.{◌≡◌, ◌≤◌, ◌+◌, ℕ, List, [], flat_map, Option, unwrap_or, slice_get}
use Rattle.std.specs.Option.{option_and_then}
use Rattle.std.specs.Str.{IsUtf8}
use Rattle.json_text.specs.Tree.{Tree, text}
use Rattle.json_text.specs.Compact.{compact_text, escape, IsValue, tree_levels}
use Rattle.input_transform.specs.declared.path.Step.{Step}
use Rattle.input_transform.specs.declared.piece.Known.{Known}
use Rattle.input_transform.specs.declared.piece.Known.TheVariants.{RuleArn, RuleName, IngestionTime, WholeEvent, BareEvent, Found}
use Rattle.input_transform.specs.declared.piece.Piece.{Piece}
use Rattle.input_transform.specs.declared.piece.Piece.TheVariants.{Plain, Value, Inside}
use Rattle.input_transform.specs.Names.{Scene, rule_arn, rule_name, ingestion_time, whole_event, bare_event, value_in, after_slash}
use Rattle.input_transform.specs.Path.{found_at}
use Rattle.input_transform.specs.Template.{Content}
use Rattle.input_transform.specs.Filled.{inside_text, filled}

-- The value of a stored name. A path is stored by its place in the list of paths.
abbrev pub known_value : Scene → List (List Step) → Known → Option Tree
known_value scene paths RuleArn = value_in scene rule_arn
known_value scene paths RuleName = value_in scene rule_name
known_value scene paths IngestionTime = value_in scene ingestion_time
known_value scene paths WholeEvent = value_in scene whole_event
known_value scene paths BareEvent = value_in scene bare_event
known_value scene paths (Found place) = option_and_then (λ steps. found_at steps scene.event) (slice_get paths place)

-- The text of a stored piece: plain bytes, a name in the place of a value, a name in a string.
abbrev pub piece_text : Scene → List (List Step) → Piece → List ℕ
piece_text scene paths (Plain bytes) = bytes
piece_text scene paths (Value known) = compact_text (unwrap_or (known_value scene paths known) (text []))
piece_text scene paths (Inside known) = flat_map escape (inside_text (known_value scene paths known))

-- The text of stored pieces.
-- Shown by: text_tests test_input_transform.rt: filled_texts.
abbrev pub pieces_text : Scene → List (List Step) → List Piece → List ℕ
pieces_text scene paths = flat_map (piece_text scene paths)

-- The pieces have the text of this template's tree with its names replaced, whatever it is filled from.
-- Shown by: text_tests test_input_transform.rt: filled_texts.
abbrev pub FillsAs : List Piece × List (List Step) → Content → Type 0
FillsAs stored c = (scene : Scene) → pieces_text scene stored.1 stored.0 ≡ compact_text (filled scene c)

-- What is filled from is a JSON value and texts: the ARN, the name in it, and the time.
-- Shown by: proofs alone.
pub record IsScene (scene : Scene) : Type 0 where
  pub value : IsValue scene.event
  pub rule_arn : IsUtf8 scene.rule_arn
  pub rule_name : IsUtf8 (after_slash scene.rule_arn)
  pub time : IsUtf8 scene.time

-- A tree that is a JSON value, with at most 100 levels more than the event.
-- Shown by: proofs alone.
abbrev pub IsFilledValue : Scene → Tree → Type 0
IsFilledValue scene t = IsValue t × (tree_levels t ≤ 100 + tree_levels scene.event)

-- Whatever they are filled from, the pieces have the text of such a tree.
-- Shown by: proofs alone.
abbrev pub FillToValues : List Piece × List (List Step) → Type 0
FillToValues stored = (scene : Scene) → IsScene scene → (t : Tree) × IsFilledValue scene t × (pieces_text scene stored.1 stored.0 ≡ compact_text t)
