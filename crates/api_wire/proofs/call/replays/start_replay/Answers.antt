use Rattle.json_text.specs.Tree.{members_of}
use Rattle.json_text.specs.View.{pairs_of}
use Rattle.api_replies.specs.declared.member.Member.TheVariants as member
use Rattle.api_wire.proofs.BoundLemmas.{time_there}
use Rattle.api_wire.proofs.call.replays.start_replay.Goals as goal

pub time_of-start-requires : goal.time_of-start-requires
time_of-start-requires c = time_there member.EventStartTime (members_of (pairs_of c.args.members.now)) c.requires.sound.1.1.0

pub time_of-end-requires : goal.time_of-end-requires
time_of-end-requires c = time_there member.EventEndTime (members_of (pairs_of c.args.members.now)) c.requires.sound.1.1.1.0
