use Rattle.std.proofs.Common.{◌≡◌, drop}
use Rattle.json_text.specs.Access.{member_in}
use Rattle.json_text.specs.Tree.{members_of}
use Rattle.json_text.specs.View.{pairs_of}
use Rattle.pattern_meaning.proofs.walk.first_member.Given as goal

-- the member is among those that are left, if there is one
abbrev pub invariant-loop-name : goal.invariant-loop-name
invariant-loop-name l = member_in l.key (members_of (pairs_of (drop l.name-index l.members))) ≡ member_in l.key (members_of (pairs_of l.members))
