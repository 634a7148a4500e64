use Rattle.std.proofs.Common.{ap, ◌∙◌}
use Rattle.std.specs.Option.{option_copied}
use Rattle.router_calls.specs.Answer.{statement_put}
use Rattle.resource_calls.specs.Decided.{decided_of}
use Rattle.router_calls.proofs.CallLemmas.{if_ok_more}
use Rattle.router_calls.proofs.PolicyLemmas.{by_policy}
use Rattle.router_calls.proofs.put_permission.put_statement.Goals as goal

pub returns-in-Some-clause-answer : goal.returns-in-Some-clause-answer
returns-in-Some-clause-answer c =
    let set = c.args.tables.now.set in
    let policy = option_copied c.policy_in.result in
    if_ok_more c.put_to.result (λ d h. by_policy c.set.result.now set c.as_str.result.now c.args.bus.now c.in-Some.found.now policy
    (statement_put set c.args.bus.now c.args.sid.now c.args.account.now) (decided_of d) c.set.ensures c.as_str.ensures c.in-Some.ensures
    c.policy_in.ensures (h ∙ ap (λ a. statement_put set c.args.bus.now c.args.sid.now a policy) c.grantee-to.ensures)) c.put_to.ensures.answer
