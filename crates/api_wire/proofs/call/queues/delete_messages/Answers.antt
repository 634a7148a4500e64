use Rattle.std.proofs.Common.{sym, ◌∙◌}
use Rattle.json_text.specs.Tree.{members_of}
use Rattle.json_text.specs.View.{pairs_of}
use Rattle.api_replies.specs.declared.member.Member.TheVariants as member
use Rattle.api_members.proofs.CountLemmas.{count_there}
use Rattle.api_wire.proofs.call.queues.delete_messages.Goals as goal

pub unreachable-requires : goal.unreachable-requires
unreachable-requires c =
    count_there member.Through (members_of (pairs_of c.args.members.now)) 0 281474976710655 c.requires.sound.1.0
    (sym (c.count_given.ensures.count) ∙ c.in-None.is)
