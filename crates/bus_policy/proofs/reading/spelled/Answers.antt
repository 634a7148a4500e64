use Rattle.std.proofs.Common.{ap, Err, arith}
use Rattle.bus_policy.proofs.ReadLemmas.{reported_fault}
use Rattle.bus_policy.proofs.reading.spelled.Goals as goal

pub returns-in-Err-clause-fault : goal.returns-in-Err-clause-fault
returns-in-Err-clause-fault c =
    reported_fault c.args.bytes.now c.in-Err.fault c.policy_fault.result (omega arith)
    (λ at e. c.in-Err.ensures.not_json at (ap Err e)) (λ at e. c.in-Err.ensures.too_deep at (ap Err e))
    (λ at e. c.in-Err.ensures.key_twice at (ap Err e)) c.policy_fault.ensures
