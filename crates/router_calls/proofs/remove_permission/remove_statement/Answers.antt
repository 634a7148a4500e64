use Rattle.std.specs.Option.{option_copied}
use Rattle.router_calls.specs.Answer.{statement_removed}
use Rattle.resource_calls.specs.Decided.{decided_of}
use Rattle.router_calls.proofs.CallLemmas.{if_ok_more}
use Rattle.router_calls.proofs.PolicyLemmas.{by_policy}
use Rattle.router_calls.proofs.remove_permission.remove_statement.Goals as goal

pub returns-in-Some-clause-answer : goal.returns-in-Some-clause-answer
returns-in-Some-clause-answer c =
    let set = c.args.tables.now.set in
    if_ok_more c.remove_from.result (λ d h. by_policy c.set.result.now set c.as_str.result.now c.args.bus.now c.in-Some.found.now
    (option_copied c.policy_in.result) (statement_removed set c.args.bus.now c.args.sid.now) (decided_of d) c.set.ensures c.as_str.ensures
    c.in-Some.ensures c.policy_in.ensures h) c.remove_from.ensures.answer
