use Rattle.std.proofs.Common.{◌≡◌, ◌≤◌, List, length, take}
use Rattle.json_text.specs.Limits.{most_text}
use Rattle.input_transform.specs.declared.path.Step.{Step}
use Rattle.input_transform.specs.Stored.{pieces_text}
use Rattle.input_transform.specs.Filling.{scene_of, IsFound}
use Rattle.input_transform.proofs.fill.filled_bytes.Given as goal

abbrev pub invariant-loop-piece : goal.invariant-loop-piece
invariant-loop-piece l = record {
  written : (paths : List (List Step)) → IsFound l.filling paths → l.out ≡ pieces_text (scene_of l.filling) paths (take l.piece-index l.pieces);
  within : length l.out ≤ most_text;
}
