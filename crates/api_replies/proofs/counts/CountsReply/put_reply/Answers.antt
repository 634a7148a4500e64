use Rattle.std.proofs.Common.{refl}
use Rattle.api_replies.proofs.ReplyLemmas.{counts_joined}
use Rattle.api_replies.proofs.counts.CountsReply.put_reply.Goals as goal

pub returns : goal.returns
returns c =
    rw (
      c.put-9.ensures.put,
      c.put-8.ensures.put,
      c.put-7.ensures.put,
      c.put-6.ensures.put,
      c.put-5.ensures.put,
      c.put-4.ensures.put,
      c.put-3.ensures.put,
      c.put-2.ensures.put,
      c.put.ensures.put,
      c.put_head.ensures.head,
      c.format-attempts.ensures.text,
      c.format-delivered.ensures.text,
      c.format-dead_lettered.ensures.text,
      c.format-dropped.ensures.text,
    )
    (counts_joined
    (record {
      attempts = c.args.attempts;
      delivered = c.args.delivered;
      dead_lettered = c.args.dead_lettered;
      dropped = c.args.dropped;
    })
    _
    c.args.close
    refl)
