-- What a target gets of an event.
use Rattle.std.specs.Prelude.{◌≡◌, ◌≤◌, ◌<◌, ◌+◌, ℕ, List, length, Result, unwrap_or, MatchResult}
use Rattle.std.specs.Arc.{arc_value}
use Rattle.json_text.specs.Tree.{Tree, null}
use Rattle.json_text.specs.Node.{Node}
use Rattle.json_text.specs.Grammar.{IsText}
use Rattle.json_text.specs.Compact.{compact_text, IsValue, tree_levels}
use Rattle.json_text.specs.Limits.{most_text}
use Rattle.input_transform.specs.declared.fault.FillFault.{FillFault}
use Rattle.input_transform.specs.declared.fault.FillFault.TheVariants.{TooLong}
use Rattle.input_transform.specs.declared.fill.Input.{Input}
use Rattle.input_transform.specs.declared.fill.Input.TheVariants.{Whole, Fixed, Path, Transform}
use Rattle.input_transform.specs.Path.{found_at}
use Rattle.input_transform.specs.Names.{Scene}
use Rattle.input_transform.specs.Stored.{pieces_text}

-- The text that a target gets: without an input the event's text; a fixed text as it is; the text of what a path finds, or `null` if it
-- finds nothing; or the text of a template's pieces.
-- Shown by: text_tests test_input_transform.rt: filled_texts; tables input_transform.rows: an_input_is_sent_compact.
abbrev pub input_text : Scene → Input → List ℕ
input_text scene Whole = compact_text scene.event
input_text scene (Fixed t) = arc_value t
input_text scene (Path steps) = compact_text (unwrap_or (found_at steps scene.event) null)
input_text scene (Transform stored) = pieces_text scene stored.1 stored.0

-- The result is this text; or the fault that it is longer than 1,048,576 bytes; or out of memory.
-- Shown by: text_tests test_input_transform.rt: a_text_has_its_limit; tables input_transform.rows: a_filled_text_has_at_most_1048576_bytes.
abbrev pub IsWithinLimit : {T : Type 0} → (T → List ℕ) → List ℕ → Result T FillFault → Type 0
IsWithinLimit shown bytes result =
    MatchResult result (λ t. (shown t ≡ bytes) × (length bytes ≤ most_text)) (λ e. e ≡ TooLong → most_text < length bytes)

-- A fixed text is JSON of at most 100 levels. Nothing is asked of other inputs.
-- Shown by: proofs alone.
abbrev pub IsSoundInput : Input → Type 0
IsSoundInput Whole = Unit {0}
IsSoundInput (Fixed t) = (n : Node) × IsText 100 (arc_value t) n
IsSoundInput (Path steps) = Unit {0}
IsSoundInput (Transform stored) = Unit {0}

-- The compact text of a JSON value with at most 100 levels more than the event.
-- Shown by: proofs alone.
abbrev pub IsFilledText : Tree → List ℕ → Type 0
IsFilledText event bytes = (t : Tree) × IsValue t × (tree_levels t ≤ 100 + tree_levels event) × (bytes ≡ compact_text t)
