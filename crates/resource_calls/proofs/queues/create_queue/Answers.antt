use Rattle.std.proofs.Common.{◌≡◌, List, ℕ, [], ◌∷◌, codes, ap, ◌∙◌}
use Rattle.json_text.specs.Tree.{text}
use Rattle.event_shape.specs.Names.{queue_arn}
use Rattle.rule_table.specs.Control.{queue_created}
use Rattle.api_replies.specs.Reply.{served}
use Rattle.api_replies.specs.View.{reply_of}
use Rattle.resource_calls.proofs.DecidedLemmas.{controlled_so}
use Rattle.resource_calls.proofs.queues.create_queue.Goals as goal

pub returns-clause-answer : goal.returns-clause-answer
returns-clause-answer c =
    let arn : c.in_ok-arn.arn ≡ queue_arn c.args.name.now = c.in_ok-arn.ensures ∙ ap queue_arn c.as_str.ensures in
    let reply : reply_of c.in_ok-reply.reply ≡ served ((codes "QueueArn", text (queue_arn c.args.name.now)) ∷ []) =
    c.in_ok-reply.ensures ∙ ap (λ (t : List ℕ). served ((codes "QueueArn", text t) ∷ [])) arn in
    controlled_so c.configure.result c.args.tables.now.set (ap queue_created c.in_ok-copy.ensures) reply c.configure.ensures.answer
