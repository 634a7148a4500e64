use Rattle.std.proofs.Common.{◌≡◌, ◌++◌, drop}
use Rattle.json_text.specs.View.{pairs_of}
use Rattle.config_views.specs.Views.{text_members}
use Rattle.config_views.proofs.inputs.paths_json.Given as goal

-- the members so far, and those of the paths that are left
abbrev pub invariant-loop-key : goal.invariant-loop-key
invariant-loop-key l = pairs_of l.members.items ++ text_members (drop l.key-index l.paths) ≡ text_members l.paths
