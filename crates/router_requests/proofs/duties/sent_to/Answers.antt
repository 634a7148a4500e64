use Rattle.std.proofs.Common.{ap, subst}
use Rattle.std.specs.Option.{option_copied}
use Rattle.std.proofs.lemmas.Result.{IfOk-weaker}
use Rattle.json_text.specs.View.{tree_of}
use Rattle.router_requests.specs.Duties.{IsTreeOf}
use Rattle.router_requests.proofs.DutyLemmas.{sent_read}
use Rattle.router_requests.proofs.duties.sent_to.Goals as goal

pub returns-in-Some : goal.returns-in-Some
returns-in-Some c = IfOk-weaker c.sent_filled.result _ _
    (λ sent of event time tree is.
    sent_read c.args.input.now c.input-read.result.now c.args.rule_arn.now time (tree_of c.in-Some.tree.now) event sent c.input-read.ensures
    (subst (IsTreeOf event) (ap option_copied c.in-Some.is) tree) (of time is))
    c.sent_filled.ensures
