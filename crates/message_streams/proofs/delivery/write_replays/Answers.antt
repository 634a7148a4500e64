use Rattle.std.proofs.Common.{◌≡◌, subst}
use Rattle.router_disk.specs.Sink.{AddsBytes}
use Rattle.api_replies.specs.Written.{reply_text}
use Rattle.message_streams.specs.Reply.{replays_reply}
use Rattle.message_streams.proofs.delivery.write_replays.Goals as goal

pub returns-in-Ok-clause-writes : goal.returns-in-Ok-clause-writes
returns-in-Ok-clause-writes g c =
    let text : c.fill_steps.result.now ≡ reply_text (replays_reply c.args.made) c.args.close =
    rw c.in-Ok.is c.fill_steps.ensures in
    subst (AddsBytes (g.K.Sink.wrote c.args.output.now) (g.K.Sink.wrote c.write_all.new.self) c.write_all.result) text c.write_all.ensures.wrote
