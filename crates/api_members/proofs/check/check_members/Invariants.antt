use Rattle.std.proofs.Common.{drop}
use Rattle.json_text.specs.Tree.{members_of}
use Rattle.json_text.specs.View.{pairs_of}
use Rattle.api_members.proofs.RefusalLemmas.{IsSoFar}
use Rattle.api_members.proofs.check.check_members.Given as goal

abbrev pub invariant-loop-one : goal.invariant-loop-one
invariant-loop-one l = IsSoFar l.asked (drop l.one-index l.asked) (members_of (pairs_of l.members))
