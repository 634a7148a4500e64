use Rattle.std.proofs.Common.{ap}
use Rattle.json_text.specs.View.{pairs_of}
use Rattle.json_text.proofs.ViewLemmas.{tree_of_list}
use Rattle.event_shape.proofs.EventLemmas.{eight_pushed}
use Rattle.event_shape.proofs.front.members_of.Goals as goal

pub returns : goal.returns
returns c =
    let resources = rw (tree_of_list c.args.front.resources) at c.in_ok-push_member.ensures.pushed in
    eight_pushed (ap pairs_of c.in_ok-members.ensures.items)
    c.in_ok-push_text.ensures.pushed c.in_ok-push_own.ensures c.in_ok-push_own-2.ensures c.in_ok-push_own-3.ensures c.in_ok-push_own-4.ensures
    c.in_ok-push_own-5.ensures c.in_ok-push_text-2.ensures.pushed resources
