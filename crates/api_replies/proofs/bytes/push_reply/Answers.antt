use Rattle.std.proofs.Common.{◌∙◌, ◌++◌, ap}
use Rattle.json_text.specs.View.{tree_of}
use Rattle.json_text.specs.Compact.{compact_text}
use Rattle.api_replies.proofs.ReplyLemmas.{reply_joined}
use Rattle.api_replies.proofs.bytes.push_reply.Goals as goal

pub returns-clause-ok : goal.returns-clause-ok
returns-clause-ok c =
    let text = compact_text (tree_of c.args.reply.now.body) in
    let body = c.in_ok-write.ensures.ok ∙ ap (λ bytes. bytes ++ text) c.new_beside-body.ensures in
    rw (c.in_ok-extend.ensures.ok, c.in_ok-push_head.ensures.ok, c.len.ensures, c.as_slice.ensures, body)
    (reply_joined c.args.out.now text c.args.reply.now.status c.args.close c.requires)
