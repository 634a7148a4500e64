use Rattle.std.proofs.Common.{◌≡◌, take, codes}
use Rattle.json_text.specs.View.{pairs_of}
use Rattle.input_transform.proofs.SceneLemmas.{without_pairs}
use Rattle.input_transform.proofs.value.members_without_detail.Given as goal

abbrev pub invariant-loop-member : goal.invariant-loop-member
invariant-loop-member l = pairs_of l.kept.items ≡ without_pairs (codes "detail") (pairs_of (take l.member-index l.members))
