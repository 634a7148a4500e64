use Rattle.std.proofs.Common.{◌≡◌, subst}
use Rattle.std.specs.Prelude.{IfOk}
use Rattle.api_replies.specs.Reply.{Reply}
use Rattle.api_replies.specs.Written.{reply_text}
use Rattle.message_streams.proofs.reply.refused_bytes.Goals as goal

pub returns : goal.returns
returns c = subst (λ (r : Reply). IfOk c.reply_bytes.result (λ bytes. bytes ≡ reply_text r c.args.close)) c.in_ok-reply.ensures c.reply_bytes.ensures
