use Rattle.json_text.specs.Tree.{members_of}
use Rattle.json_text.specs.View.{pairs_of}
use Rattle.api_replies.specs.declared.member.Member.TheVariants as member
use Rattle.api_members.proofs.TextLemmas.{pattern_text}
use Rattle.api_wire.proofs.call.rules.put_rule.Goals as goal

pub read_pattern-requires : goal.read_pattern-requires
read_pattern-requires c = pattern_text member.EventPattern (members_of (pairs_of c.args.members.now)) c.requires.sound.1.0
