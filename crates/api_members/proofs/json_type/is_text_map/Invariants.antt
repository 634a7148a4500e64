use Rattle.std.proofs.Common.{◌≡◌, drop}
use Rattle.json_text.specs.Tree.{members_of}
use Rattle.json_text.specs.View.{pairs_of}
use Rattle.api_members.specs.JsonType.{each_value}
use Rattle.json_text.specs.Access.{is_text}
use Rattle.api_members.proofs.json_type.is_text_map.Given as goal

abbrev pub invariant-loop-key : goal.invariant-loop-key
invariant-loop-key l = each_value is_text (members_of (pairs_of (drop l._key-index l.members))) ≡ each_value is_text (members_of (pairs_of l.members))
