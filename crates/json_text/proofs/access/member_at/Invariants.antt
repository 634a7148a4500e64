use Rattle.std.proofs.Common.{◌≡◌, drop}
use Rattle.json_text.specs.{Tree.members_of, View.pairs_of, Access.member_in}
use Rattle.json_text.proofs.access.member_at.Given as goal

-- the member is among those that are left, if there is one
abbrev pub invariant-loop-name : goal.invariant-loop-name
invariant-loop-name l = member_in l.key (members_of (pairs_of (drop l.name-index l.members))) ≡ member_in l.key (members_of (pairs_of l.members))
