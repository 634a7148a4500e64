use Rattle.std.proofs.Common.{sym, subst}
use Rattle.router_requests.specs.declared.duties.Sent.{Sent}
use Rattle.router_requests.specs.Duties.{IsDutyOf}
use Rattle.router_requests.proofs.DutyLemmas.{duty_filled, duty_whole, duty_with}
use Rattle.router_requests.proofs.duties.duty_of.Goals as goal
use Rattle.router_requests.proofs.duties.duty_of.Goals.{in-Some+in_ok-sent-in-Some, in-None+in_ok-sent-in-None}

pub returns : goal.returns
returns c = λ event time whole tree is.
    let seen = c.args.seen in
    elim c.match-input.branch [
      | in-Some+in_ok-sent-in-Some w ↦ subst (λ (s : Sent). IsDutyOf event time seen (duty_with seen.row s)) (sym w.sent-is)
          (duty_filled event time seen w.in-Some.input c.rule_arn-arn.result.now w.in_ok-sent-in-Some.sent w.in-Some.is c.rule_arn-arn.ensures c.rule_arn-arn.utf8
          (w.in_ok-sent-in-Some.ensures event time tree is))
      | in-None+in_ok-sent-in-None w ↦ subst (λ (s : Sent). IsDutyOf event time seen (duty_with seen.row s)) (sym w.sent-is)
          (duty_whole event time seen c.rule_arn-arn.result.now w.in_ok-sent-in-None.sent c.args.whole.now w.in-None.is c.rule_arn-arn.ensures c.rule_arn-arn.utf8
          w.in_ok-sent-in-None.ensures whole)
    ]
