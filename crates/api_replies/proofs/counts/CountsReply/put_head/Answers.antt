use Rattle.std.proofs.Common.{[]}
use Rattle.api_replies.proofs.ReplyLemmas.{head_joined}
use Rattle.api_replies.proofs.counts.CountsReply.put_head.Goals as goal

pub returns-clause-head : goal.returns-clause-head
returns-clause-head c =
    rw (c.put-4.ensures.put, c.put-3.ensures.put, c.put-2.ensures.put, c.put.ensures.put, c.clear.ensures.items)
    (head_joined [] _ _ _ 200 c.args.len c.args.close c.status_line.ensures.text c.format.ensures.text c.head_end.ensures.text)
