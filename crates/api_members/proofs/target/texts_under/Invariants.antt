use Rattle.std.proofs.Common.{◌≡◌, ◌++◌, drop}
use Rattle.json_text.specs.Tree.{members_of}
use Rattle.json_text.specs.View.{pairs_of}
use Rattle.api_members.specs.Target.{texts_under}
use Rattle.api_members.proofs.target.texts_under.Given as goal

abbrev pub invariant-loop-key : goal.invariant-loop-key
invariant-loop-key l = l.texts.items ++ texts_under (members_of (pairs_of (drop l.key-index l.members))) ≡ texts_under (members_of (pairs_of l.members))
