use Rattle.std.specs.Option.{option_map}
use Rattle.rule_table.specs.Control.{policy_put}
use Rattle.rule_table.specs.View.{control_of}
use Rattle.rule_table.specs.WellFormed.{IsSpelled}
use Rattle.entry_bytes.specs.ChangeReading.{policy_put_at}
use Rattle.entry_bytes.proofs.Finding.{found_so, refused_so, missing_so}
use Rattle.entry_bytes.proofs.change.take_policy_put.Goals as goal

pub returns-in-Ok-made_policy : goal.returns-in-Ok-made_policy
returns-in-Ok-made_policy c = found_so IsSpelled (policy_put_at c.args.bytes.now) (policy_put c.in-Ok.bus.now (option_map (λ t. t.now) c.in-Ok.policy))
    (control_of c.in-Ok-made_policy.control) c.in-Ok.rest.now c.in-Ok.ensures c.in-Ok-made_policy.ensures.0 c.in-Ok-made_policy.ensures.1

pub returns-in-Err-made_policy : goal.returns-in-Err-made_policy
returns-in-Err-made_policy c = refused_so IsSpelled (policy_put_at c.args.bytes.now) (policy_put c.in-Ok.bus.now (option_map (λ t. t.now) c.in-Ok.policy))
    c.in-Ok.rest.now c.in-Err-made_policy.fault c.in-Ok.ensures c.in-Err-made_policy.ensures

pub returns-in-Err : goal.returns-in-Err
returns-in-Err c = missing_so IsSpelled (policy_put_at c.args.bytes.now) c.in-Err.fault c.in-Err.ensures
