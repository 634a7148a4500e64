use Rattle.api_members.proofs.RefusalLemmas.{policy_refused}
use Rattle.api_members.proofs.check.check_policy_text.Goals as goal

pub returns-in-Err : goal.returns-in-Err
returns-in-Err c =
    policy_refused c.args.text.now c.in-Err.fault c.policy_fault.result (rw (← c.as_bytes.ensures.value) c.in-Err.ensures.fault)
    c.policy_fault.ensures
