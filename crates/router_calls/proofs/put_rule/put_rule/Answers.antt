use Rattle.std.proofs.Common.{◌≡◌, List, ℕ, [], ◌∷◌, codes, ap, ◌∙◌}
use Rattle.json_text.specs.Tree.{text}
use Rattle.event_shape.specs.Names.{rule_arn}
use Rattle.api_replies.specs.Reply.{served}
use Rattle.api_replies.specs.View.{reply_of}
use Rattle.resource_calls.proofs.DecidedLemmas.{controlled_so}
use Rattle.router_calls.proofs.put_rule.put_rule.Goals as goal

pub returns-clause-answer : goal.returns-clause-answer
returns-clause-answer c =
    let bus = ap (λ (b : List ℕ). rule_arn b c.as_str-2.result.now) c.as_str.ensures in
    let name = ap (rule_arn c.args.bus.now) c.as_str-2.ensures in
    let arn : c.in_ok-arn.arn ≡ rule_arn c.args.bus.now c.args.name.now = c.in_ok-arn.ensures ∙ bus ∙ name in
    let reply : reply_of c.in_ok-reply.reply ≡ served ((codes "RuleArn", text (rule_arn c.args.bus.now c.args.name.now)) ∷ []) =
    c.in_ok-reply.ensures ∙ ap (λ (t : List ℕ). served ((codes "RuleArn", text t) ∷ [])) arn in
    controlled_so c.configure.result c.args.tables.now.set c.in_ok-control.ensures reply c.configure.ensures.answer
