use Rattle.std.proofs.Common.{◌∙◌}
use Rattle.api_replies.proofs.ReplyLemmas.{head_joined}
use Rattle.api_replies.proofs.bytes.push_head.Goals as goal

pub returns-clause-ok : goal.returns-clause-ok
returns-clause-ok c =
    rw (c.in_ok-extend-4.ensures.ok, c.in_ok-extend-3.ensures.ok, c.in_ok-extend-2.ensures.ok, c.in_ok-extend.ensures.ok, c.as_bytes-2.ensures.value)
    (head_joined c.args.out.now _ _ _ c.args.status c.args.len c.args.close (c.as_bytes.ensures.value ∙ c.status_line.ensures.text)
    (c.as_bytes-3.ensures.value ∙ c.format.ensures.text) (c.as_bytes-4.ensures.value ∙ c.head_end.ensures.text))
