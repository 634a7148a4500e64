use Rattle.std.proofs.Common.{refl}
use Rattle.api_replies.proofs.ReplyLemmas.{steps_joined}
use Rattle.api_replies.proofs.counts.CountsReply.put_steps.Goals as goal

pub returns : goal.returns
returns c =
    rw (c.put-3.ensures.put, c.put-2.ensures.put, c.put.ensures.put, c.put_head.ensures.head, c.format-steps.ensures.text)
    (steps_joined c.args.steps _ c.args.close refl)
